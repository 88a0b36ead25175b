-- Answered here, so that a wrong body fails at once.
use Rattle.std.proofs.Common.{rules}
use Rattle.findings.proofs.watching.reported_as.Goals as goal

pub returns-in-Stuck-false : goal.returns-in-Stuck-false
returns-in-Stuck-false c = search rules
