use Rattle.links_drains.proofs.Common.{List, Sqe, WorldState, Submitted}
use Rattle.links_drains.proofs.FailingRows.{FailingTo}
use Rattle.links_drains.proofs.failing.failing_chains.Given as goal

abbrev pub invariant-loop-i : goal.invariant-loop-i
invariant-loop-i l =
    (w : WorldState) (es : List Sqe) → Submitted w es l.first l.rows l.errors → FailingTo w es l.i l.failing.items
