use Rattle.findings.proofs.Common.{◌<◌, length, arith, advanced}
use Rattle.findings.proofs.Lasting.{mapped_right, mapped_step}
use Rattle.findings.proofs.watching.advance.Goals as goal

pub loop-watch-preserved : goal.loop-watch-preserved
loop-watch-preserved c =
    let s = c.args.setup.now in
    let m = c.args.state.now in
    let l : c.loop-watch.watch-index < length c.args.watches.now = omega arith in
    let right = mapped_right s c.args.event m c.args.moment c.args.watches.now c.loop-watch.watches c.loop-watch.watch-index _ c.moved_by-moved.result l c.loop-watch.invariant c.moved_by-moved.ensures c.requires in
    mapped_step (advanced s m c.args.moment) c.args.watches.now c.loop-watch.watches c.loop-watch.watch-index _ c.advanced.result l c.loop-watch.invariant (c.advanced.ensures s right)
