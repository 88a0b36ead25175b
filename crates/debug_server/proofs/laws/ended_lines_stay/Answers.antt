use Rattle.debug_server.proofs.Bytes.{ended_stay}
use Rattle.debug_server.proofs.laws.ended_lines_stay.Goals as goal

pub returns : goal.returns
returns c = ended_stay
