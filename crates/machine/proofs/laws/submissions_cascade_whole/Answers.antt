use Rattle.machine.proofs.Common.{whole, taken}
use Rattle.machine.proofs.WholeCascades.{taken_formed}
use Rattle.machine.proofs.laws.submissions_cascade_whole.Goals as goal

pub returns : goal.returns
returns c = λ m k direct f. whole (taken m k).table m.counted direct (taken_formed m k f)
