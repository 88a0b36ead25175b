-- Answered here, so that a wrong body fails at once.
use Rattle.std.proofs.Common.{rules}
use Rattle.stops.proofs.sites.value_before.Goals as goal

pub returns-in-Some : goal.returns-in-Some
returns-in-Some c = search rules
