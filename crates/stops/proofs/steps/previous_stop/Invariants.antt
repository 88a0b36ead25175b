use Rattle.std.proofs.Common.{◌≤◌}
use Rattle.stops.proofs.Points.{PassedDown}
use Rattle.stops.proofs.steps.previous_stop.Given as goal

abbrev pub invariant-loop-moment : goal.invariant-loop-moment
invariant-loop-moment l = record {
  within : l.moment ≤ l.at;
  passed : PassedDown l.events l.thread l.at l.moment;
}

abbrev pub decreases-loop-moment : goal.decreases-loop-moment
decreases-loop-moment l = l.moment
