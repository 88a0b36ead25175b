-- Answered here, so that a wrong body fails at once.
use Rattle.std.proofs.Common.{rules}
use Rattle.stops.proofs.steps.is_event_of.Goals as goal

pub returns-in-Thread-Step : goal.returns-in-Thread-Step
returns-in-Thread-Step c = search rules
