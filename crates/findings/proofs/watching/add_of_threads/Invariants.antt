use Rattle.findings.proofs.Common.{◌≡◌, ◌++◌, map, fresh, numbers_below}
use Rattle.findings.proofs.watching.add_of_threads.Given as goal

abbrev pub invariant-loop-thread : goal.invariant-loop-thread
invariant-loop-thread l = l.list.items ≡ l.fn.list.items ++ map (fresh l.condition) (numbers_below l.thread)
