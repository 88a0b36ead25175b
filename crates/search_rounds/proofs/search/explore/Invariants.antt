use Rattle.std.proofs.Common.{◌≤◌, ◌+◌, ◌-◌, All}
use Rattle.search_rounds.specs.Trials.{IsOutcome, IsQuiet}
use Rattle.search_rounds.proofs.search.explore.Given as goal

abbrev pub invariant-loop-next : goal.invariant-loop-next
invariant-loop-next g l = record {
  callable : goal.F-IsAlwaysCallable g l.progress;
  ready : All (λ lane. g.E.Experiment.is_ready l.experiment lane.worker) l.lanes;
  from : l.first ≤ l.next;
  within : l.next ≤ l.first + l.count;
  quiet : IsQuiet (IsOutcome (g.E.Experiment.shows l.experiment) (g.E.Experiment.gives l.experiment)) l.first l.next l.totals;
}

abbrev pub decreases-loop-next : goal.decreases-loop-next
decreases-loop-next g l = l.first + l.count - l.next
