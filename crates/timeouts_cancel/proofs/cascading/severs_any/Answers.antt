use Rattle.timeouts_cancel.proofs.Common.{◌≡◌, ◌∙◌, pos, false, sym, ap, subst, take, take_all, ◌+◌, w32, FitsSigned, rules, slice_index_or, ◌&&◌, to_z-of_z, slice_get-get_or, is_soft_linked, Ending, is_bad, Walked, take_more}
use Rattle.timeouts_cancel.proofs.{Walking.walked_direct, Sweeping.walked_all}
use Rattle.timeouts_cancel.proofs.cascading.severs_any.Goals as goal

pub loop-at-preserved : goal.loop-at-preserved
loop-at-preserved c =
    let e : Ending = slice_index_or c.args.direct.now c.loop-at.at (0, pos 0) in
    let fits : FitsSigned w32 e.1 = search rules in
    let same = to_z-of_z w32 e.1 fits in
    let there = slice_get-get_or c.args.direct.now c.loop-at.at (0, pos 0) c.loop-at-test.true in
    let row = c.row_ref.result.now in
    let whole : (is_soft_linked row && is_bad row e.1) ≡ false = ap (λ z. is_soft_linked row && is_bad row z) (sym same) ∙ sym c.severs.ensures ∙ c.if-severs.false in
    let w = c.loop-at.invariant in (
      e.0 + 1,
      subst (λ es. Walked c.args.table.now c.args.direct.now (e.0 + 1) (c.loop-at.at + 1) es) (sym (take_more c.args.direct.now c.loop-at.at e there))
          (walked_direct c.args.table.now c.args.direct.now w.0 c.loop-at.at (take c.loop-at.at c.args.direct.now) e row c.requires.direct w.1 there c.row_ref.ensures whole),
    )

pub returns : goal.returns
returns c = λ none.
    let w = c.loop-at.invariant in
    sym (take_all c.loop-at.at c.args.direct.now c.loop-at-test.false) ∙ walked_all c.args.table.now c.args.direct.now w.0 c.loop-at.at _ w.1 c.loop-at-test.false
