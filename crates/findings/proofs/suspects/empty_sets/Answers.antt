use Rattle.findings.proofs.Marks.{marked_empty}
use Rattle.findings.proofs.suspects.empty_sets.Goals as goal

pub loop-object-preserved : goal.loop-object-preserved
loop-object-preserved c =
    marked_empty c.loop-object.sets.items c.push.new.self.items c.new.result c.loop-object._object c.loop-object.invariant.0 c.loop-object.invariant.1 c.new.ensures c.in_ok-push.ensures.items
