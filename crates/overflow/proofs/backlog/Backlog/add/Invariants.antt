use Rattle.overflow.proofs.Adding.{Adding}
use Rattle.overflow.proofs.backlog.Backlog.add.Given as goal

abbrev pub invariant-loop-i : goal.invariant-loop-i
invariant-loop-i l = Adding l.fn.self l.fn.notes l.notes l.list l.i
