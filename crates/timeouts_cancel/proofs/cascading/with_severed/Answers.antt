use Rattle.timeouts_cancel.proofs.Sweeping.{walked_all}
use Rattle.timeouts_cancel.proofs.cascading.with_severed.Goals as goal

pub returns : goal.returns
returns c = let w = c.loop-at.invariant in walked_all c.args.table.now c.args.direct.now w.0 c.loop-at.at c.loop-at.endings.items w.1 c.loop-at-test.false
