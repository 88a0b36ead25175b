use Rattle.links_drains.proofs.Chains.{chained-batch}
use Rattle.links_drains.proofs.laws.batch_is_chained.Goals as goal

pub returns : goal.returns
returns c = chained-batch
