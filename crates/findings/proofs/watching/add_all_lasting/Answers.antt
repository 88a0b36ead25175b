use Rattle.findings.proofs.Common.{arith, of_lasting}
use Rattle.findings.proofs.Groups.{each_more}
use Rattle.findings.proofs.watching.add_all_lasting.Goals as goal

pub loop-watch-preserved : goal.loop-watch-preserved
loop-watch-preserved c =
    each_more (of_lasting c.args.over c.args.state.now) c.args.watches.now c.loop-watch.watch-index _ _ c.loop-watch.found.items _ (omega arith) c.loop-watch.invariant c.in_ok-add_lasting.ensures
