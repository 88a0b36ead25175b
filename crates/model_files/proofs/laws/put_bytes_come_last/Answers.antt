use Rattle.model_files.proofs.Wrapping.{content_put}
use Rattle.model_files.proofs.laws.put_bytes_come_last.Goals as goal

pub returns : goal.returns
returns c = content_put
