use Rattle.timeouts_cancel.proofs.Common.{◌≡◌, ◌≤◌, take, counted_in}
use Rattle.timeouts_cancel.proofs.timers.count.Given as goal

abbrev pub invariant-loop-r : goal.invariant-loop-r
invariant-loop-r l = (l.count ≡ counted_in l.table (take l.r-index l.endings)) × (l.count ≤ l.r-index)
