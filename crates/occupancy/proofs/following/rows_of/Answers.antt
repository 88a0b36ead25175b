use Rattle.occupancy.proofs.Common.{◌≤◌, ◌++◌, ◌∷◌, [], length, arith, sym, ap, ◌∙◌, take_all, take_more, slice_get_none}
use Rattle.occupancy.proofs.following.rows_of.Goals as goal

pub loop-number-preserved : goal.loop-number-preserved
loop-number-preserved c =
    c.in_ok-push-in-Some.ensures.items ∙ ap (λ xs. xs ++ c.in-Some.row ∷ []) c.loop-number.invariant ∙ sym (take_more c.args.state.now.table c.loop-number.number c.in-Some.row (sym c.in-Some.ensures.row))

pub returns-in-None : goal.returns-in-None
returns-in-None c = c.loop-number.invariant ∙ take_all c.loop-number.number c.args.state.now.table (slice_get_none _ c.loop-number.number (sym c.in-None.ensures.row))

pub returns : goal.returns
returns c =
    let l : length c.args.state.now.table ≤ c.loop-number.number = omega (arith, c.row-first.ensures.formed.mostly.table.few) in
    c.loop-number.invariant ∙ take_all c.loop-number.number c.args.state.now.table l
