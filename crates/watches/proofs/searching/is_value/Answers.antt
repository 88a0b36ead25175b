-- Answered here, so that a wrong body fails at once.
use Rattle.std.proofs.Common.{rules}
use Rattle.watches.proofs.searching.is_value.Goals as goal

pub returns-in-Some : goal.returns-in-Some
returns-in-Some c = search rules
