use Rattle.std.proofs.Common.{◌∙◌, sym, arith}
use Rattle.stops.proofs.Points.{passed_up_more, next_found, next_end}
use Rattle.stops.proofs.steps.next_stop.Goals as goal

pub loop-passed-init : goal.loop-passed-init
loop-passed-init c = λ k a b d. absurd (omega arith)

pub returns-then-is_after_step : goal.returns-then-is_after_step
returns-then-is_after_step c =
    next_found c.args.events.now c.args.thread c.args.at c.loop-passed.passed (omega (arith, c.loop-passed.auto.passed)) (omega (arith, c.loop-passed-test.true)) c.loop-passed.invariant (sym c.is_after_step.ensures ∙ c.if-is_after_step.true)

pub loop-passed-preserved : goal.loop-passed-preserved
loop-passed-preserved c =
    passed_up_more c.args.events.now c.args.thread c.args.at c.loop-passed.passed c.loop-passed.invariant (sym c.is_after_step.ensures ∙ c.if-is_after_step.false)

pub returns : goal.returns
returns c = next_end c.args.events.now c.args.thread c.args.at c.loop-passed.passed (omega arith) c.loop-passed.invariant
