use Rattle.std.proofs.Common.{All}
use Rattle.script_check.specs.SureFailures.{IsOfPut}
use Rattle.script_check.proofs.failing.add_thread.Given as goal

abbrev pub invariant-loop-index : goal.invariant-loop-index
invariant-loop-index l =
    All (IsOfPut l.setup.threads) l.fn.found.items → All (IsOfPut l.setup.threads) l.found.items
