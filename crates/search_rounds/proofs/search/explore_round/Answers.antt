use Rattle.std.proofs.Common.{arith}
use Rattle.search_rounds.proofs.Joining.{found_at, quiet_of, lanes_join, lane_reports, each_more}
use Rattle.search_rounds.specs.Trials.{IsOutcome}
use Rattle.search_rounds.proofs.search.explore_round.Goals as goal

pub returns-in-Some-clause-reports : goal.returns-in-Some-clause-reports
returns-in-Some-clause-reports g c =
    found_at _ _ _ _ _ _ _ c.in-Some.is (omega arith)
    (lanes_join (g.E.Experiment.is_ready c.args.experiment.now) _ c.args.from c.args.until _ c.loop-lane.lane-index c.run_lanes.new.lanes c.lane-item.result c.in_ok-found.found c.loop-lane.totals c.add_lane.new.totals
    c.run_lanes.ensures (omega (arith, c.run_lanes.auto.lanes)) c.lane-item.is c.in_ok-found.ensures.found c.loop-lane.invariant.quiet c.in_ok-found.ensures.totals)

pub loop-lane-preserved : goal.loop-lane-preserved
loop-lane-preserved g c = record {
  ready =
      each_more (g.E.Experiment.is_ready c.args.experiment.now) c.run_lanes.new.lanes c.loop-lane.lane-index c.lane-item.result c.loop-lane.invariant.ready (omega (arith, c.run_lanes.auto.lanes)) c.lane-item.is
      (lane_reports (g.E.Experiment.is_ready c.args.experiment.now) (IsOutcome (g.E.Experiment.shows c.args.experiment.now) (g.E.Experiment.gives c.args.experiment.now)) c.args.from c.args.until _ c.loop-lane.lane-index c.run_lanes.new.lanes c.lane-item.result c.in_ok-found.found
      c.run_lanes.ensures (omega (arith, c.run_lanes.auto.lanes)) c.lane-item.is c.in_ok-found.ensures.found).0;
  quiet =
      quiet_of _ _ _ _ _
      (lanes_join (g.E.Experiment.is_ready c.args.experiment.now) _ c.args.from c.args.until _ c.loop-lane.lane-index c.run_lanes.new.lanes c.lane-item.result c.in_ok-found.found c.loop-lane.totals c.add_lane.new.totals
      c.run_lanes.ensures (omega (arith, c.run_lanes.auto.lanes)) c.lane-item.is c.in_ok-found.ensures.found c.loop-lane.invariant.quiet c.in_ok-found.ensures.totals)
      c.in-None.is;
}
