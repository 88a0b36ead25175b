use Rattle.model_files.proofs.Forming.{world_put_formed}
use Rattle.model_files.proofs.laws.put_formed.Goals as goal

pub returns : goal.returns
returns c = world_put_formed
