use Rattle.std.proofs.Common.{◌≡◌, ◌≤◌, ◌-◌, length}
use Rattle.timeouts_cancel.proofs.MatchByMatch.{matches_to}
use Rattle.timeouts_cancel.proofs.matching.count_by.Given as goal

abbrev pub invariant-loop-r : goal.invariant-loop-r
invariant-loop-r l = (l.count ≡ length (matches_to l.table l.key l.me l.next)) × (l.count ≤ l.next)

abbrev pub decreases-loop-r : goal.decreases-loop-r
decreases-loop-r l = 65536 - l.next
