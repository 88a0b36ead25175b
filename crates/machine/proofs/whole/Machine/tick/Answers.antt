use Rattle.machine.proofs.Lifting.{keeps_clock}
use Rattle.machine.proofs.whole.Machine.tick.Goals as goal

pub returns-clause-keeps : goal.returns-clause-keeps
returns-clause-keeps c = keeps_clock c.args.self.now _ _ _ c.in_ok-note_number.ensures.ok
