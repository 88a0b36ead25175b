use Rattle.std.proofs.Common.{length, ◌-◌, ◌+◌, ◌<◌, ◌≤◌, ℕ}
use Rattle.model_files.specs.Differing.{Alike, DifferAt}
use Rattle.model_files.proofs.differing.skip_changed.Given as goal

abbrev pub invariant-loop-end : goal.invariant-loop-end
invariant-loop-end l = record {
  some : l.from < l.end;
  within : l.end ≤ length l.old;
  last : DifferAt l.old l.others (l.end - 1);
  inner : (i : ℕ) → l.from ≤ i → i + 16 ≤ l.end → ¬ Alike l.old l.others i (i + 16);
}

abbrev pub decreases-loop-end : goal.decreases-loop-end
decreases-loop-end l = length l.old - l.end
