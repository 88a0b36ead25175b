use Rattle.sampling.proofs.Ending.{ends_over}
use Rattle.sampling.proofs.laws.ends_over.Goals as goal

pub returns : goal.returns
returns c = ends_over
