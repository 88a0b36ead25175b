use Rattle.model_files.proofs.Forming.{world_at_formed}
use Rattle.model_files.proofs.laws.moved_formed.Goals as goal

pub returns : goal.returns
returns c = world_at_formed
