use Rattle.std.proofs.Common.{length, ◌-◌, ◌≤◌}
use Rattle.model_files.specs.Differing.{Alike}
use Rattle.model_files.proofs.differing.skip_alike.Given as goal

abbrev pub invariant-loop-at : goal.invariant-loop-at
invariant-loop-at l = record {
  from : l.from ≤ l.at;
  within : l.at ≤ length l.old;
  alike : Alike l.old l.others l.from l.at;
}

abbrev pub decreases-loop-at : goal.decreases-loop-at
decreases-loop-at l = length l.old - l.at
