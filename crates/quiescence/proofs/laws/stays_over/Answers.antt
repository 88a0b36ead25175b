use Rattle.quiescence.proofs.Staying.{stays_over}
use Rattle.quiescence.proofs.laws.stays_over.Goals as goal

pub returns : goal.returns
returns c = stays_over
