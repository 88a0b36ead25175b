use Rattle.model_files.proofs.Forming.{world_synced_formed}
use Rattle.model_files.proofs.laws.synced_formed.Goals as goal

pub returns : goal.returns
returns c = world_synced_formed
