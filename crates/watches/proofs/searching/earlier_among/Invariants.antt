use Rattle.std.proofs.Common.{ℕ, ◌<◌, ◌≤◌}
use Rattle.watches.specs.Stops.{Unchanged}
use Rattle.watches.proofs.searching.earlier_among.Given as goal

abbrev pub invariant-loop-moment : goal.invariant-loop-moment
invariant-loop-moment l = record {
  within : l.moment ≤ l.walker.at;
  still : (k : ℕ) → l.moment ≤ k → k < l.walker.at → Unchanged l.walker l.places k;
}

abbrev pub decreases-loop-moment : goal.decreases-loop-moment
decreases-loop-moment l = l.moment
