use Rattle.timeouts_cancel.proofs.Common.{◌≡◌, ◌-◌, upto}
use Rattle.timeouts_cancel.proofs.Meeting.{met_result}
use Rattle.timeouts_cancel.proofs.timers.met.Given as goal

abbrev pub invariant-loop-r : goal.invariant-loop-r
invariant-loop-r l = l.met.items ≡ upto (met_result l.total) l.table l.from

abbrev pub decreases-loop-r : goal.decreases-loop-r
decreases-loop-r l = 65536 - l.from
