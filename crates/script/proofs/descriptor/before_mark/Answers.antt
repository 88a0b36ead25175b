use Rattle.script.proofs.Marks.{stripped}
use Rattle.script.proofs.descriptor.before_mark.Goals as goal

pub returns : goal.returns
returns c = stripped c.args.mark.now c.args.text.now c.strip_suffix.result c.strip_suffix.ensures.cases
