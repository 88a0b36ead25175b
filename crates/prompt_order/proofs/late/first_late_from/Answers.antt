use Rattle.prompt_order.proofs.Prompting.{prompt_more}
use Rattle.prompt_order.proofs.late.first_late_from.Goals as goal

pub loop-index-preserved : goal.loop-index-preserved
loop-index-preserved c = prompt_more c.args.setup.now c.args.events.now c.loop-index.index c.loop-index.from c.in-Ok.next c.loop-index.state c.step.new.self _ c.loop-index-test.true c.loop-index.invariant c.in-Ok-step.ensures.next c.in-Ok.ensures.prompt
