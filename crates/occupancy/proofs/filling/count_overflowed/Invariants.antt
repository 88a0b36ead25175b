use Rattle.occupancy.proofs.Common.{◌≤◌, ◌-◌, length}
use Rattle.occupancy.proofs.filling.count_overflowed.Given as goal

abbrev pub invariant-items : goal.invariant-items
invariant-items l = l.count ≤ length l.state.backlog.items

abbrev pub decreases-items : goal.decreases-items
decreases-items l = length l.state.backlog.items - l.count
