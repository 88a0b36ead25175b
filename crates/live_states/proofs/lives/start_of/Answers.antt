use Rattle.std.proofs.Common.{◌∙◌, ap}
use Rattle.machine.specs.Runs.{start}
use Rattle.live_states.proofs.lives.start_of.Goals as goal

pub returns-in-Ok-clause-setup : goal.returns-in-Ok-clause-setup
returns-in-Ok-clause-setup c = c.in_ok-setup.ensures

pub returns-in-Ok-clause-state : goal.returns-in-Ok-clause-state
returns-in-Ok-clause-state c = c.in-Ok.ensures.start ∙ ap start c.in_ok-setup.ensures
