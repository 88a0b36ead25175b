use Rattle.links_drains.proofs.DirectPairs.{direct-batch}
use Rattle.links_drains.proofs.laws.batch_ends_rows.Goals as goal

pub returns : goal.returns
returns c = direct-batch
