use Rattle.links_drains.proofs.DirectPairs.{unlisted_passes}
use Rattle.links_drains.proofs.laws.other_rows_pass.Goals as goal

pub returns : goal.returns
returns c = unlisted_passes
