use Rattle.finding_rules.proofs.StuckSteps.{stuck_refused}
use Rattle.finding_rules.proofs.laws.stuck_steps_are_refused.Goals as goal

pub returns : goal.returns
returns c = stuck_refused
