use Rattle.timeouts_cancel.proofs.Meeting.{met_next}
use Rattle.timeouts_cancel.proofs.timers.met.Goals as goal

pub loop-r-preserved : goal.loop-r-preserved
loop-r-preserved c = met_next c.args.table.now c.args.total c.loop-r.from c.in-Some.r c.loop-r.met.items _ c.loop-r.invariant c.in-Some.ensures.some c.in_ok-push.ensures.items
