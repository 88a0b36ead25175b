use Rattle.std.proofs.Common.{◌≡◌, ◌-◌}
use Rattle.timeouts_cancel.proofs.MatchByMatch.{waiting_to}
use Rattle.timeouts_cancel.proofs.matching.all_by.Given as goal

abbrev pub invariant-loop-r : goal.invariant-loop-r
invariant-loop-r l = l.all.items ≡ waiting_to l.table l.world l.key l.me l.from

abbrev pub decreases-loop-r : goal.decreases-loop-r
decreases-loop-r l = 65536 - l.from
