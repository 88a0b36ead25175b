use Rattle.findings.proofs.Common.{is_volatile_at}
use Rattle.findings.proofs.Marks.{marked_more}
use Rattle.findings.proofs.verdicts.volatile_sets.Goals as goal

pub loop-object-preserved : goal.loop-object-preserved
loop-object-preserved c =
    marked_more c.loop-object.sets.items c.push.new.self.items c.mark_volatile.new.bytes c.new-bytes.result c.loop-object.object (is_volatile_at c.args.state.now) c.loop-object.invariant.0 c.loop-object.invariant.1 c.new-bytes.ensures c.in_ok-mark_volatile.ensures c.in_ok-push.ensures.items
