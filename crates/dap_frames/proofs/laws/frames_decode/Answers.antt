use Rattle.dap_frames.proofs.Reading.{frames_run, prefixes}
use Rattle.dap_frames.proofs.laws.frames_decode.Goals as goal

pub returns-clause-bodies : goal.returns-clause-bodies
returns-clause-bodies c = frames_run

pub returns-clause-prefixes : goal.returns-clause-prefixes
returns-clause-prefixes c = prefixes
