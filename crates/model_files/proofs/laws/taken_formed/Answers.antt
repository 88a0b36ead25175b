use Rattle.model_files.proofs.Forming.{world_taken_formed}
use Rattle.model_files.proofs.laws.taken_formed.Goals as goal

pub returns : goal.returns
returns c = world_taken_formed
