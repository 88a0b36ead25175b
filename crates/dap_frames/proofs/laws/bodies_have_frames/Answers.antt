use Rattle.dap_frames.proofs.Spelled.{begins}
use Rattle.dap_frames.proofs.laws.bodies_have_frames.Goals as goal

pub returns : goal.returns
returns c = begins
