use Rattle.model_files.proofs.Forming.{world_cleared_formed}
use Rattle.model_files.proofs.laws.cleared_formed.Goals as goal

pub returns : goal.returns
returns c = world_cleared_formed
