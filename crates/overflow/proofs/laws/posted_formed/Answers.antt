use Rattle.overflow.proofs.KeptInOrder.{posted_formed}
use Rattle.overflow.proofs.laws.posted_formed.Goals as goal

pub returns : goal.returns
returns c = posted_formed
