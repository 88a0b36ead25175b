use Rattle.occupancy.proofs.Common.{◌≡◌, ◌≤◌, ◌-◌, ◌++◌, length, replicate, new_stamps}
use Rattle.occupancy.proofs.stamps.add_rows.Given as goal

abbrev pub invariant-loop-row : goal.invariant-loop-row
invariant-loop-row l = record {
  added : l.stamps.items ≡ l.fn.stamps.items ++ replicate (l.row - length l.fn.stamps.items) (new_stamps l.moment);
  within : l.row ≤ length l.state.table;
}
