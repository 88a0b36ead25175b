use Rattle.model_files.proofs.Forming.{world_added_formed}
use Rattle.model_files.proofs.laws.added_formed.Goals as goal

pub returns : goal.returns
returns c = world_added_formed
