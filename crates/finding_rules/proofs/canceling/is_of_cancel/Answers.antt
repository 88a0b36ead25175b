-- Answered here, so that a wrong body fails at once.
use Rattle.std.proofs.Common.{rules}
use Rattle.finding_rules.proofs.canceling.is_of_cancel.Goals as goal

pub returns-then-takes_all-2 : goal.returns-then-takes_all-2
returns-then-takes_all-2 c = search rules
