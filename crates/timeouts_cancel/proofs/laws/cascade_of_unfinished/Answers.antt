use Rattle.timeouts_cancel.proofs.Whole.{cascade_unfinished}
use Rattle.timeouts_cancel.proofs.laws.cascade_of_unfinished.Goals as goal

pub returns : goal.returns
returns c = cascade_unfinished
