-- Answered here, so that a wrong body fails at once.
use Rattle.std.proofs.Common.{rules}
use Rattle.finding_rules.proofs.conflicts.meet.Goals as goal

pub returns : goal.returns
returns c = search rules
