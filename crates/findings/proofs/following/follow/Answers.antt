-- Answered here, so that a wrong body fails at once.
use Rattle.std.proofs.Common.{rules}
use Rattle.findings.proofs.following.follow.Goals as goal

pub returns-in_ok-push-in-false-true : goal.returns-in_ok-push-in-false-true
returns-in_ok-push-in-false-true c = search rules
