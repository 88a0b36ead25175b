use Rattle.search_rounds.specs.Trials.{IsOutcome, IsQuiet}
use Rattle.search_rounds.proofs.lanes.first_shown.Given as goal

abbrev pub invariant-loop-number : goal.invariant-loop-number
invariant-loop-number g l = record {
  ready : g.E.Experiment.is_ready l.experiment l.worker;
  quiet : IsQuiet (IsOutcome (g.E.Experiment.shows l.experiment) (g.E.Experiment.gives l.experiment)) l.from l.number l.totals;
}
