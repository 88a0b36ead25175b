use Rattle.timeouts_cancel.proofs.Common.{ℕ, length, ◌+◌, ◌-◌, Merged}
use Rattle.timeouts_cancel.proofs.merging.merge.Given as goal

abbrev pub invariant-loop-r : goal.invariant-loop-r
invariant-loop-r l = (k : ℕ) × Merged l.table l.first l.second k l.i l.j l.all.items

abbrev pub decreases-loop-r : goal.decreases-loop-r
decreases-loop-r l = (length l.first - l.i) + (length l.second - l.j)
