use Rattle.std.proofs.Common.{arith}
use Rattle.shared_pages.proofs.Joining.{overwritten}
use Rattle.shared_pages.proofs.pieces.copy_over.Goals as goal

pub loop-at-preserved : goal.loop-at-preserved
loop-at-preserved g c = record {
  shown = overwritten c.args.elements.now c.loop-at.elements c.args.others.now c.overwrite.new.elements c.loop-at.at c.min-len.result c.loop-at.invariant.shown (omega (arith, c.min-len.ensures)) c.overwrite.ensures;
  within = omega (arith, c.min-len.ensures);
}
