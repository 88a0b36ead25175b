use Rattle.sampling.proofs.Repeating.{repeatable}
use Rattle.sampling.proofs.laws.repeatable.Goals as goal

pub returns : goal.returns
returns c = repeatable
