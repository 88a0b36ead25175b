use Rattle.std.proofs.Common.{ℕ, ◌<◌}
use Rattle.std.specs.Prelude.{slice_index_or}
use Rattle.search_rounds.specs.Rounds.{part_start}
use Rattle.search_rounds.specs.Trials.{IsOutcome, IsQuiet}
use Rattle.search_rounds.proofs.search.explore_round.Given as goal

abbrev pub invariant-loop-lane : goal.invariant-loop-lane
invariant-loop-lane g l = record {
  ready : (k : ℕ) (d : _) → k < l.lane-index → g.E.Experiment.is_ready l.experiment (slice_index_or l.lane-items k d).worker;
  quiet : IsQuiet (IsOutcome (g.E.Experiment.shows l.experiment) (g.E.Experiment.gives l.experiment)) l.from (part_start l.from l.until l.lane-index) l.totals;
}
