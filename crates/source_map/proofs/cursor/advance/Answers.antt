use Rattle.std.proofs.Common.{arith}
use Rattle.source_map.proofs.Cursors.{cursor_next}
use Rattle.source_map.proofs.cursor.advance.Goals as goal

pub loop-at-preserved : goal.loop-at-preserved
loop-at-preserved c = cursor_next c.args.text.now c.loop-at.at c.loop-at.position c.pass-position.result (omega arith) c.loop-at.invariant c.pass-position.ensures
