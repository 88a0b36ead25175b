use Rattle.model_files.proofs.Forming.{world_read_formed}
use Rattle.model_files.proofs.laws.read_formed.Goals as goal

pub returns : goal.returns
returns c = world_read_formed
