use Rattle.std.proofs.Common.{refl}
use Rattle.inverse_log.proofs.Runs.{run-more}
use Rattle.inverse_log.proofs.walker.state_after.Goals as goal

pub loop-event-preserved : goal.loop-event-preserved
loop-event-preserved c =
    run-more c.args.state _ _ c.args.events.now c.loop-event.event-index _ _ c.loop-event-test.true refl c.loop-event.invariant c.in_default.ensures.next
