use Rattle.std.proofs.Common.{ℕ, ◌<◌, ◌≤◌}
use Rattle.bit_sets.specs.Thresholds.{never}
use Rattle.bit_sets.specs.Thresholds.{threshold_at}
use Rattle.bit_sets.proofs.thresholds.minimum.Given as goal

abbrev pub invariant-loop-threshold : goal.invariant-loop-threshold
invariant-loop-threshold l = (l.least ≤ never) × ((i : ℕ) → i < l.threshold-index → l.least ≤ threshold_at l.thresholds i)
