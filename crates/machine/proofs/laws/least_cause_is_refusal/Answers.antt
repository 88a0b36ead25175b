use Rattle.machine.proofs.Refusals.{has_its_cause, least}
use Rattle.machine.proofs.laws.least_cause_is_refusal.Goals as goal

pub returns-clause-has_its_cause : goal.returns-clause-has_its_cause
returns-clause-has_its_cause c = has_its_cause

pub returns-clause-least : goal.returns-clause-least
returns-clause-least c = least
