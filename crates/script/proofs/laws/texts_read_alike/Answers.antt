use Rattle.script.proofs.Once.{reads_once}
use Rattle.script.proofs.laws.texts_read_alike.Goals as goal

pub returns : goal.returns
returns c = reads_once
