use Rattle.occupancy.proofs.Common.{◌≡◌, ◌<◌, length, Some, slice_get, arith, sym, ap, ◌∙◌, slice_get_within}
use Rattle.occupancy.proofs.{Counting.requested_is, Noting.stamp_row_set}
use Rattle.occupancy.proofs.stamps.stamp_row.Goals as goal

pub returns-in-Some-Requested-clause-value : goal.returns-in-Some-Requested-clause-value
returns-in-Some-Requested-clause-value c =
    let there : slice_get c.args.state.now.table c.args.row ≡ Some c.in-Some-Requested.found = requested_is (slice_get c.args.state.now.table c.args.row) c.in-Some-Requested.found (sym c.value.ensures.value ∙ c.in-Some-Requested.is ∙ ap Some c.in-Some-Requested.field-0-is) in
    let in_rows : c.args.row < length c.args.state.now.table = slice_get_within c.args.state.now.table c.args.row c.in-Some-Requested.found there in
    let same = c.requires in
    rw c.stamped.ensures (stamp_row_set c.args.state.now.table c.args.moment c.args.stamps.now.items c.args.row c.index-before.result.now c.in-Some-Requested.found there (omega (arith, same, in_rows)) c.index-before.ensures)
