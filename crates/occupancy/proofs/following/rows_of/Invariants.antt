use Rattle.occupancy.proofs.Common.{◌≡◌, take}
use Rattle.occupancy.proofs.following.rows_of.Given as goal

abbrev pub invariant-loop-number : goal.invariant-loop-number
invariant-loop-number l = l.rows.items ≡ take l.number l.state.table
