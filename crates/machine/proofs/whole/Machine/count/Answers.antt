use Rattle.machine.proofs.Lifting.{keeps_counted}
use Rattle.machine.proofs.whole.Machine.count.Goals as goal

pub returns-clause-keeps : goal.returns-clause-keeps
returns-clause-keeps c = keeps_counted c.args.self.now _ _ _ c.in_ok-note_number.ensures.ok
