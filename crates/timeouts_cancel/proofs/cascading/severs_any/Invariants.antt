use Rattle.timeouts_cancel.proofs.Common.{ℕ, take, Walked}
use Rattle.timeouts_cancel.proofs.cascading.severs_any.Given as goal

abbrev pub invariant-loop-at : goal.invariant-loop-at
invariant-loop-at l = (k : ℕ) × Walked l.table l.direct k l.at (take l.at l.direct)
