use Rattle.std.proofs.Common.{ℕ, ◌<◌, ◌≤◌}
use Rattle.bit_sets.specs.Thresholds.{threshold_at}
use Rattle.bit_sets.proofs.thresholds.next_between.Given as goal

abbrev pub invariant-loop-k : goal.invariant-loop-k
invariant-loop-k l = (i : ℕ) → l.from ≤ i → i < l.k → l.total < threshold_at l.thresholds i
