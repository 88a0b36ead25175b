use Rattle.std.proofs.Common.{◌≤◌}
use Rattle.model_files.specs.Differing.{Alike}
use Rattle.model_files.proofs.differing.last_end.Given as goal

abbrev pub invariant-loop-end : goal.invariant-loop-end
invariant-loop-end l = record {
  from : l.from ≤ l.end;
  within : l.end ≤ l.to;
  rest_alike : Alike l.old l.others l.end l.to;
}

abbrev pub decreases-loop-end : goal.decreases-loop-end
decreases-loop-end l = l.end
