use Rattle.timeouts_cancel.proofs.Common.{◌≤◌, length, FoundPast, Passed}
use Rattle.timeouts_cancel.proofs.matching.next_with_user.Given as goal

abbrev pub invariant-loop-at : goal.invariant-loop-at
invariant-loop-at l = record { passed : Passed l.table l.key l.me l.from l.at; within : l.end ≤ length l.table; found : FoundPast l.table l.key l.me l.from l.end l.least }

abbrev pub decreases-loop-at : goal.decreases-loop-at
decreases-loop-at l = l.end
