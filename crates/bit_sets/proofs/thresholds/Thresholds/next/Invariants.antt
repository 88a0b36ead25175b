use Rattle.std.proofs.Common.{ℕ, ◌*◌, ◌<◌, ◌≤◌}
use Rattle.bit_sets.specs.Thresholds.{threshold_at}
use Rattle.bit_sets.proofs.thresholds.Thresholds.next.Given as goal

abbrev pub invariant-loop-block : goal.invariant-loop-block
invariant-loop-block l = (i : ℕ) → l.from ≤ i → i < l.block * 256 → l.total < threshold_at l.self i
