use Rattle.timeouts_cancel.proofs.Whole.{cascade_rising}
use Rattle.timeouts_cancel.proofs.laws.cascade_rises.Goals as goal

pub returns : goal.returns
returns c = cascade_rising
