use Rattle.timeouts_cancel.proofs.Common.{◌≡◌, ◌∙◌, pos, true, false, sym, ap, subst, List, [], ◌∷◌, ◌++◌, ◌+◌, w32, FitsSigned, rules, slice_index_or, ◌&&◌, to_z-of_z, slice_get-get_or, is_soft_linked, Ending, is_bad, Walked, Sweeping}
use Rattle.timeouts_cancel.proofs.{Severing.both, Walking.walked_direct, Sweeping.sweep_start}
use Rattle.timeouts_cancel.proofs.cascading.end_one.Goals as goal

pub sever-requires-clause-sweeping : goal.sever-requires-clause-sweeping
sever-requires-clause-sweeping c =
    let e : Ending = slice_index_or c.args.direct.now c.args.at (0, pos 0) in
    let fits : FitsSigned w32 e.1 = search rules in
    let same = to_z-of_z w32 e.1 fits in
    let items = c.in_ok-push.ensures.items ∙ ap (λ z. c.args.endings.now.items ++ (e.0, z) ∷ []) same in
    let broken : (is_soft_linked c.row_ref-row.result.now && is_bad c.row_ref-row.result.now e.1) ≡ true = ap (λ z. is_soft_linked c.row_ref-row.result.now && is_bad c.row_ref-row.result.now z) (sym same) ∙ sym c.if-severs.ensures in
    let b = both (is_soft_linked c.row_ref-row.result.now) (is_bad c.row_ref-row.result.now e.1) broken in
    let w = c.requires.walked in
    subst (λ (es : List Ending). Sweeping c.args.table.now c.args.direct.now (e.0 + 1) (c.args.at + 1) es c.row_ref-row.result.now.unit) (sym items)
    (sweep_start c.args.table.now c.args.direct.now w.0 c.args.at c.args.endings.now.items e c.row_ref-row.result.now c.requires.direct w.1 (slice_get-get_or c.args.direct.now c.args.at (0, pos 0) c.requires.there) c.row_ref-row.ensures b.0 b.1)

pub returns-clause-walked : goal.returns-clause-walked
returns-clause-walked c =
    let e : Ending = slice_index_or c.args.direct.now c.args.at (0, pos 0) in
    let fits : FitsSigned w32 e.1 = search rules in
    let same = to_z-of_z w32 e.1 fits in
    let items = c.in_ok-push.ensures.items ∙ ap (λ z. c.args.endings.now.items ++ (e.0, z) ∷ []) same in
    let broken : (is_soft_linked c.row_ref-row.result.now && is_bad c.row_ref-row.result.now e.1) ≡ false = ap (λ z. is_soft_linked c.row_ref-row.result.now && is_bad c.row_ref-row.result.now z) (sym same) ∙ sym c.if-severs.ensures in
    let w = c.requires.walked in (
      e.0 + 1,
      subst (λ (es : List Ending). Walked c.args.table.now c.args.direct.now (e.0 + 1) (c.args.at + 1) es) (sym items)
          (walked_direct c.args.table.now c.args.direct.now w.0 c.args.at c.args.endings.now.items e c.row_ref-row.result.now c.requires.direct w.1 (slice_get-get_or c.args.direct.now c.args.at (0, pos 0) c.requires.there) c.row_ref-row.ensures broken),
    )
