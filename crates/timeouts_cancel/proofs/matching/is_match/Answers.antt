-- Answered here, so that a wrong body fails at once.
use Rattle.std.proofs.Common.{rules}
use Rattle.timeouts_cancel.proofs.matching.is_match.Goals as goal

pub returns-then-r-me : goal.returns-then-r-me
returns-then-r-me c = search rules
