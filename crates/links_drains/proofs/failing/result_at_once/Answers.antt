-- Answered here, so that a wrong body fails at once.
use Rattle.std.proofs.Common.{rules}
use Rattle.links_drains.proofs.failing.result_at_once.Goals as goal

pub returns-in-None : goal.returns-in-None
returns-in-None c = search rules
