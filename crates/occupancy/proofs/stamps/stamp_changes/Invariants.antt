use Rattle.occupancy.proofs.Common.{◌≡◌, length, stamp_changes}
use Rattle.occupancy.proofs.stamps.stamp_changes.Given as goal

abbrev pub invariant-loop-change : goal.invariant-loop-change
invariant-loop-change l = record {
  left : stamp_changes l.state.table l.moment l.rest l.stamps.items ≡ stamp_changes l.state.table l.moment l.past l.fn.stamps.items;
  count : length l.stamps.items ≡ length l.state.table;
}

abbrev pub decreases-loop-change : goal.decreases-loop-change
decreases-loop-change l = length l.rest
