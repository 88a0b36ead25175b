use Rattle.timeouts_cancel.specs.Walks.{SweepsOn}
use Rattle.timeouts_cancel.proofs.cascading.sever.Given as goal

abbrev pub invariant-loop-k : goal.invariant-loop-k
invariant-loop-k l = SweepsOn l.table l.direct l.k l.next l.endings.items l.unit l.fn.at
