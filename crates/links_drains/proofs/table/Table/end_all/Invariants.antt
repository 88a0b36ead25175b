use Rattle.links_drains.proofs.EndingRows.{EndingRows}
use Rattle.links_drains.proofs.table.Table.end_all.Given as goal

abbrev pub invariant-loop-i : goal.invariant-loop-i
invariant-loop-i l = EndingRows l.fn.self l.self l.fn.notes l.notes l.fn.ended l.i
