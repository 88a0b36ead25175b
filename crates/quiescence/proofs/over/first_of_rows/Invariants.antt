use Rattle.std.proofs.Common.{ℕ, ◌-◌, ◌<◌, length}
use Rattle.quiescence.specs.Over.{IsAtRest}
use Rattle.quiescence.proofs.over.first_of_rows.Given as goal

abbrev pub invariant-loop-number : goal.invariant-loop-number
invariant-loop-number l = (k : ℕ) → k < l.from → IsAtRest l.state k

abbrev pub decreases-loop-number : goal.decreases-loop-number
decreases-loop-number l = length l.state.table - l.from
