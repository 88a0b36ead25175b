use Rattle.links_drains.proofs.Common.{◌≤◌, ◌-◌, NoHolder}
use Rattle.links_drains.proofs.finder.Finder.next_holder.Given as goal

abbrev pub invariant-loop-start : goal.invariant-loop-start
invariant-loop-start l = record { on : l.from ≤ l.at; none : NoHolder l.fd l.rows l.from l.at }

abbrev pub decreases-loop-start : goal.decreases-loop-start
decreases-loop-start l = 65536 - l.at
