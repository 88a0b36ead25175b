use Rattle.std.proofs.Common.{◌≡◌, ℕ, ◌<◌, ◌≤◌}
use Rattle.std.specs.Prelude.{if◌then◌else◌}
use Rattle.std.specs.Int.{bit_at}
use Rattle.exploring.specs.RandomRuns.{is_shown}
use Rattle.exploring.proofs.random_runs.kinds_of.Given as goal

abbrev pub invariant-loop-k : goal.invariant-loop-k
invariant-loop-k l = record {
  seen : (i : ℕ) → i < l.k → bit_at l.bits i ≡ (if is_shown l.kinds l.findings i then 1 else 0);
  above : (i : ℕ) → l.k ≤ i → bit_at l.bits i ≡ 0;
}
