use Rattle.model_files.proofs.Forming.{world_closed_formed}
use Rattle.model_files.proofs.laws.closed_formed.Goals as goal

pub returns : goal.returns
returns c = world_closed_formed
