use Rattle.timeouts_cancel.proofs.Common.{ℕ, length, ◌-◌, Walked}
use Rattle.timeouts_cancel.proofs.cascading.with_severed.Given as goal

abbrev pub invariant-loop-at : goal.invariant-loop-at
invariant-loop-at l = (k : ℕ) × Walked l.table l.direct k l.at l.endings.items

abbrev pub decreases-loop-at : goal.decreases-loop-at
decreases-loop-at l = length l.direct - l.at
