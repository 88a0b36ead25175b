-- Answered here, so that a wrong body fails at once.
use Rattle.std.proofs.Common.{rules}
use Rattle.stops.proofs.landing.sooner.Goals as goal

pub returns-in-Some-Some : goal.returns-in-Some-Some
returns-in-Some-Some c = search rules
