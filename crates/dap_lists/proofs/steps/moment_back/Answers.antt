-- Answered here, so that a wrong body fails at once.
use Rattle.std.proofs.Common.{rules}
use Rattle.dap_lists.proofs.steps.moment_back.Goals as goal

pub returns : goal.returns
returns c = search rules
