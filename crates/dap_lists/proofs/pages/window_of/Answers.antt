-- Answered here, so that a wrong body fails at once.
use Rattle.std.proofs.Common.{rules}
use Rattle.dap_lists.proofs.pages.window_of.Goals as goal

pub returns-clause-value : goal.returns-clause-value
returns-clause-value c = search rules
