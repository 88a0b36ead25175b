use Rattle.model_files.proofs.Comparing.{parts_decide}
use Rattle.model_files.proofs.differing.are_alike.Goals as goal

pub returns : goal.returns
returns c = parts_decide c.args.old.now c.args.others.now c.args.from c.args.to c.eq.result c.eq.ensures
