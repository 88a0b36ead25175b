use Rattle.findings.proofs.Common.{◌<◌, length, arith, advanced}
use Rattle.findings.proofs.Lasting.{mapped_step}
use Rattle.findings.proofs.watching.begin.Goals as goal

pub loop-watch-preserved : goal.loop-watch-preserved
loop-watch-preserved c =
    let l : c.loop-watch.watch-index < length c.args.watches.now = omega arith in
    mapped_step (advanced c.args.setup.now c.args.state.now 0) c.args.watches.now c.loop-watch.watches c.loop-watch.watch-index _ c.begun.result l c.loop-watch.invariant c.begun.ensures
