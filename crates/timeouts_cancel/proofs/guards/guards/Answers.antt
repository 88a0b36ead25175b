use Rattle.std.proofs.Common.{◌≡◌, ◌∙◌, pos, Some, None, sym, ap, cond, arith, ◌++◌, ◌+◌, slice_index_or}
use Rattle.timeouts_cancel.proofs.Common.{slice_get, append-nil, slice_get-get_or, Ending, ecanceled, paired}
use Rattle.timeouts_cancel.proofs.{Targets.guarded_all, Targets.guarded_next, Targets.listed_within, Walking.of_one, guards.guards.Goals.then-is_guarded+in_ok-push, guards.guards.Goals.else-is_guarded}
use Rattle.timeouts_cancel.proofs.guards.guards.Goals as goal

pub is_guarded-requires : goal.is_guarded-requires
is_guarded-requires c =
    let e : Ending = slice_index_or c.args.listed.now c.loop-at.at (0, pos 0) in
    let there = slice_get-get_or c.args.listed.now c.loop-at.at (0, pos 0) c.loop-at-test.true in
    let few = c.requires.few in
    omega (arith, few, listed_within c.args.table.now c.args.listed.now c.loop-at.at e c.requires.listed there)

pub overflow_add-r : goal.overflow_add-r
overflow_add-r c =
    let e : Ending = slice_index_or c.args.listed.now c.loop-at.at (0, pos 0) in
    let there = slice_get-get_or c.args.listed.now c.loop-at.at (0, pos 0) c.loop-at-test.true in
    let few = c.requires.few in
    omega (arith, few, listed_within c.args.table.now c.args.listed.now c.loop-at.at e c.requires.listed there)

pub loop-at-preserved : goal.loop-at-preserved
loop-at-preserved c =
    let e : Ending = slice_index_or c.args.listed.now c.loop-at.at (0, pos 0) in
    let there : slice_get c.args.listed.now c.loop-at.at ≡ Some e = slice_get-get_or c.args.listed.now c.loop-at.at (0, pos 0) c.loop-at-test.true in
    let items : c.if-is_guarded.guards.items ≡ c.loop-at.guards.items ++ of_one (paired (e.0 + 1) (cond c.is_guarded.result (Some ecanceled) None)) =
    elim c.if-is_guarded.branch [
      | then-is_guarded+in_ok-push w ↦ ap (λ v. v.items) w.guards-is ∙ w.in_ok-push.ensures.items ∙ ap (λ b. c.loop-at.guards.items ++ of_one (paired (e.0 + 1) (cond b (Some ecanceled) None))) (sym w.if-is_guarded.true)
      | else-is_guarded w ↦ ap (λ v. v.items) w.guards-is ∙ sym (append-nil c.loop-at.guards.items) ∙ ap (λ b. c.loop-at.guards.items ++ of_one (paired (e.0 + 1) (cond b (Some ecanceled) None))) (sym w.if-is_guarded.false)
    ] in
    guarded_next c.args.table.now c.args.listed.now c.loop-at.at c.loop-at.guards.items c.if-is_guarded.guards.items e c.is_guarded.result c.requires.guards c.requires.listed c.loop-at.invariant there c.is_guarded.ensures items

pub returns : goal.returns
returns c = guarded_all c.args.table.now c.args.listed.now c.loop-at.at c.loop-at.guards.items c.requires.guards c.loop-at.invariant c.loop-at-test.false
