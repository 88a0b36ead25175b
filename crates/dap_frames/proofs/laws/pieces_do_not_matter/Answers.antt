use Rattle.dap_frames.proofs.Pieces.{decode_pieces}
use Rattle.dap_frames.proofs.laws.pieces_do_not_matter.Goals as goal

pub returns : goal.returns
returns c = decode_pieces
