use Rattle.model_files.proofs.Wrapping.{content_taken}
use Rattle.model_files.proofs.laws.takes_the_oldest.Goals as goal

pub returns : goal.returns
returns c = content_taken
