use Rattle.timeouts_cancel.proofs.Common.{[], Guarded}
use Rattle.timeouts_cancel.proofs.guards.guards_any.Given as goal

abbrev pub invariant-loop-at : goal.invariant-loop-at
invariant-loop-at l = Guarded l.table l.listed l.at []
