-- Answered here, so that a wrong body fails at once.
use Rattle.std.proofs.Common.{rules}
use Rattle.watches.proofs.stopping.position_of.Goals as goal

pub returns-in-Change : goal.returns-in-Change
returns-in-Change c = search rules
