use Rattle.overflow.proofs.KeptInOrder.{flushed_formed}
use Rattle.overflow.proofs.laws.flushed_formed.Goals as goal

pub returns : goal.returns
returns c = flushed_formed
