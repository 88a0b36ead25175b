-- Answered here, so that a wrong body fails at once.
use Rattle.std.proofs.Common.{rules}
use Rattle.finding_rules.proofs.conditions.has_closed.Goals as goal

pub returns-in-Some : goal.returns-in-Some
returns-in-Some c = search rules
