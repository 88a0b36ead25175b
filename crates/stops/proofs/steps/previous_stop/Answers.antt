use Rattle.std.proofs.Common.{◌∙◌, sym, arith}
use Rattle.stops.proofs.Points.{passed_down_more, previous_found, previous_start}
use Rattle.stops.proofs.steps.previous_stop.Goals as goal

pub loop-moment-init : goal.loop-moment-init
loop-moment-init c = record {
  within = omega arith;
  passed = λ k a b. absurd (omega arith);
}

pub returns-then-is_after_step : goal.returns-then-is_after_step
returns-then-is_after_step c =
    previous_found c.args.events.now c.args.thread c.args.at c.loop-moment.moment c.requires c.loop-moment-test.true c.loop-moment.invariant.within c.loop-moment.invariant.passed (sym c.is_after_step.ensures ∙ c.if-is_after_step.true)

pub loop-moment-preserved : goal.loop-moment-preserved
loop-moment-preserved c = record {
  within = omega arith;
  passed = passed_down_more c.args.events.now c.args.thread c.args.at c.loop-moment.moment c.requires c.loop-moment-test.true c.loop-moment.invariant.within c.loop-moment.invariant.passed (sym c.is_after_step.ensures ∙ c.if-is_after_step.false);
}

pub returns : goal.returns
returns c = previous_start c.args.events.now c.args.thread c.args.at c.loop-moment.moment c.requires (omega arith) c.loop-moment.invariant.passed
