-- Answered here, so that a wrong body fails at once.
use Rattle.std.proofs.Common.{rules}
use Rattle.dap_frames.proofs.decoder.Decoder.read_byte.Goals as goal

pub returns-in-Err-clause-err : goal.returns-in-Err-clause-err
returns-in-Err-clause-err c = search rules
