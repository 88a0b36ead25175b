use Rattle.model_files.proofs.Forming.{world_written_formed}
use Rattle.model_files.proofs.laws.written_formed.Goals as goal

pub returns : goal.returns
returns c = world_written_formed
