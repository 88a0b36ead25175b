use Rattle.timeouts_cancel.proofs.Whole.{whole}
use Rattle.timeouts_cancel.proofs.laws.cascade_is_whole.Goals as goal

pub returns : goal.returns
returns c = whole
