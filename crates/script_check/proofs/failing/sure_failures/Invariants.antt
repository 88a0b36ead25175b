use Rattle.std.proofs.Common.{All}
use Rattle.script_check.specs.SureFailures.{IsOfPut}
use Rattle.script_check.proofs.failing.sure_failures.Given as goal

abbrev pub invariant-loop-thread : goal.invariant-loop-thread
invariant-loop-thread l = All (IsOfPut l.setup.threads) l.found.items
