use Rattle.model_files.proofs.Forming.{world_stored_formed}
use Rattle.model_files.proofs.laws.stored_formed.Goals as goal

pub returns : goal.returns
returns c = world_stored_formed
