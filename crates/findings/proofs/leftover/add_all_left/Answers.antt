use Rattle.findings.proofs.Common.{◌≤◌, length, sym, arith, slice_get_none}
use Rattle.findings.proofs.Left.{left_more, left_whole}
use Rattle.findings.proofs.leftover.add_all_left.Goals as goal

pub loop-number-preserved : goal.loop-number-preserved
loop-number-preserved c =
    left_more _ c.loop-number.number _ _ _ _ c.loop-number.found.items c.add_left.new.found.items (sym c.in-Some.ensures.row) c.in_ok-add_left-in-Some.ensures c.loop-number.invariant

pub returns-in-None : goal.returns-in-None
returns-in-None c = left_whole _ c.loop-number.number _ _ _ c.loop-number.found.items (slice_get_none _ c.loop-number.number (sym c.in-None.ensures.row)) c.loop-number.invariant

pub returns : goal.returns
returns c =
    let l : length c.args.state.now.table ≤ c.loop-number.number = omega (arith, c.row_at-first.ensures.few) in
    left_whole _ c.loop-number.number _ _ _ c.loop-number.found.items l c.loop-number.invariant
