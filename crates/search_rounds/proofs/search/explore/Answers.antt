use Rattle.std.proofs.Common.{arith, rules, of_calls}
use Rattle.std.specs.Prelude.{Some}
use Rattle.search_rounds.proofs.Joining.{found_at, quiet_of, reports-join, least_of, quiet_least}
use Rattle.search_rounds.specs.Trials.{IsOutcome}
use Rattle.search_rounds.proofs.search.explore.Goals as goal

pub returns-in-Some-clause-totals : goal.returns-in-Some-clause-totals
returns-in-Some-clause-totals g c =
    found_at _ _ _ _ _ _ _ c.in-Some.is (omega arith)
    (reports-join _ _ _ _ _ _ _ _ c.loop-next.invariant.quiet c.add.ensures c.in_ok-report.ensures.reports)

pub returns-in-Some-clause-least : goal.returns-in-Some-clause-least
returns-in-Some-clause-least g c =
    least_of (g.E.Experiment.shows c.args.experiment.now) (g.E.Experiment.gives c.args.experiment.now) c.args.first _ (Some c.in-Some.number) c.add.new.self
    (found_at (IsOutcome (g.E.Experiment.shows c.args.experiment.now) (g.E.Experiment.gives c.args.experiment.now)) _ _ _ _ _ _ c.in-Some.is (omega arith)
    (reports-join _ _ _ _ _ _ _ _ c.loop-next.invariant.quiet c.add.ensures c.in_ok-report.ensures.reports))

pub loop-next-preserved : goal.loop-next-preserved
loop-next-preserved g c = record {
  callable = search (rules, of_calls);
  ready = c.in_ok-report.ensures.ready c.in-None.is;
  from = omega arith;
  within = omega arith;
  quiet =
      quiet_of _ _ _ _ _
      (reports-join _ _ _ _ _ _ _ _ c.loop-next.invariant.quiet c.add.ensures c.in_ok-report.ensures.reports)
      c.in-None.is;
}

pub returns-clause-least : goal.returns-clause-least
returns-clause-least g c =
    quiet_least (g.E.Experiment.shows c.args.experiment.now) (g.E.Experiment.gives c.args.experiment.now) _ _ _ _ c.loop-next.invariant.quiet (omega arith)
