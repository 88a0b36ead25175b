-- Answered here, so that a wrong body fails at once.
use Rattle.std.proofs.Common.{rules}
use Rattle.findings.proofs.watching.continued.Goals as goal

pub returns-in-true-Some : goal.returns-in-true-Some
returns-in-true-Some c = search rules
