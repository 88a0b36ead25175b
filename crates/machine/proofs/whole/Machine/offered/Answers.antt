use Rattle.machine.proofs.Common.{sym, ◌∙◌, ap, min}
use Rattle.std.proofs.lemmas.List.{length-take}
use Rattle.machine.proofs.whole.Machine.offered.Goals as goal

pub returns-clause-offered : goal.returns-clause-offered
returns-clause-offered c = c.min.ensures ∙ ap (min c.args.to_submit) c.waiting.ensures.list ∙ sym (length-take _ _)
