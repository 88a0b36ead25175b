use Rattle.model_files.proofs.Forming.{world_start_formed}
use Rattle.model_files.proofs.laws.start_formed.Goals as goal

pub returns : goal.returns
returns c = world_start_formed
