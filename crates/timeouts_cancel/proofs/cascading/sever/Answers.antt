use Rattle.std.proofs.Common.{◌≡◌, ◌∙◌, ℕ, Some, None, refl, sym, ap, subst, cond, ◌++◌, ◌∷◌, [], List, ◌≤◌, arith, w32, FitsSigned, rules}
use Rattle.timeouts_cancel.proofs.Common.{to_z-of_z, append-nil, Row, Ending, ecanceled, paired, Sweeping, SweepsOn}
use Rattle.timeouts_cancel.proofs.{Walking.of_one, Sweeping.same_row, Sweeping.sweep_direct, Sweeping.sweep_other, Sweeping.sweep_end, Sweeping.others_later, cascading.sever.Goals.in-Some+in_ok-push, cascading.sever.Goals.in_default+then-is_unfinished+in_ok-push-2, cascading.sever.Goals.in_default+else-is_unfinished}
use Rattle.timeouts_cancel.proofs.cascading.sever.Goals as goal

-- The invariant, restated for equal lists and indexes.
sweeps_on : (rows : List Row) (direct : List Ending) (k i j : ℕ) (es fs : List Ending) (unit at : ℕ) → fs ≡ es → j ≡ i → at ≤ i → Sweeping rows direct k i es unit → SweepsOn rows direct k j fs unit at
sweeps_on rows direct k i j es fs unit at e n l s =
    let P : List Ending → Type 0 = λ xs. SweepsOn rows direct k j xs unit at in
    let Q : ℕ → Type 0 = λ x. SweepsOn rows direct k x es unit at in
    subst P (sym e) (subst Q (sym n) (record { sweeping = s; on = l }))

pub returns-then-row-unit-clause-walked : goal.returns-then-row-unit-clause-walked
returns-then-row-unit-clause-walked c = (
  c.loop-k.k,
  sweep_end c.args.table.now c.args.direct.now _ _ _ _ c.len-k-end.ensures.chained c.requires.direct c.loop-k.invariant.sweeping
      (λ row h u. c.if-row-unit.true (ap (λ (x : Row). x.unit) (same_row c.row_ref-row.result.now row (sym c.row_ref-row.ensures ∙ h)) ∙ u)),
)

pub loop-k-preserved : goal.loop-k-preserved
loop-k-preserved c =
    let there = c.row_ref-row.ensures in
    let unit : c.row_ref-row.result.now.unit ≡ c.args.unit = c.if-row-unit.false in
    let s = c.loop-k.invariant.sweeping in
    let on = c.loop-k.invariant.on in
    elim c.match-result_at.branch [
      | in-Some+in_ok-push w ↦
          let fits : FitsSigned w32 w.in-Some.res = search rules in
          let items = ap (λ v. v.items) w.endings-is ∙ w.in_ok-push.ensures.items ∙ ap (λ z. c.loop-k.endings.items ++ (c.loop-k.k, z) ∷ []) (to_z-of_z w32 w.in-Some.res fits) in
          sweeps_on _ _ _ _ _ _ _ _ _ items w.next-is (omega (arith, on))
          (sweep_direct c.args.table.now c.args.direct.now c.loop-k.k c.loop-k.next c.loop-k.endings.items c.args.unit (c.loop-k.k, w.in-Some.res) c.row_ref-row.result.now c.requires.direct s w.in-Some.ensures.some refl there unit)
      | in_default+then-is_unfinished+in_ok-push-2 w ↦
          let other = others_later c.args.table.now c.args.direct.now c.loop-k.k c.loop-k.next c.requires.direct s.above (w.in_default.ensures.none refl) in
          let items = ap (λ v. v.items) w.endings-is ∙ w.in_ok-push-2.ensures.items ∙ ap (λ b. c.loop-k.endings.items ++ of_one (paired c.loop-k.k (cond b (Some ecanceled) None))) w.if-is_unfinished.ensures in
          sweeps_on _ _ _ _ _ _ _ _ _ items w.next-is on
          (sweep_other c.args.table.now c.args.direct.now c.loop-k.k c.loop-k.next c.loop-k.endings.items _ c.args.unit c.row_ref-row.result.now c.requires.direct s other there unit refl)
      | in_default+else-is_unfinished w ↦
          let other = others_later c.args.table.now c.args.direct.now c.loop-k.k c.loop-k.next c.requires.direct s.above (w.in_default.ensures.none refl) in
          let items = ap (λ v. v.items) w.endings-is ∙ sym (append-nil c.loop-k.endings.items) ∙ ap (λ b. c.loop-k.endings.items ++ of_one (paired c.loop-k.k (cond b (Some ecanceled) None))) w.if-is_unfinished.ensures in
          sweeps_on _ _ _ _ _ _ _ _ _ items w.next-is on
          (sweep_other c.args.table.now c.args.direct.now c.loop-k.k c.loop-k.next c.loop-k.endings.items _ c.args.unit c.row_ref-row.result.now c.requires.direct s other there unit refl)
    ]
