use Rattle.timeouts_cancel.proofs.Common.{◌∙◌, ◌++◌, ◌∷◌, [], sym, ap, true, false, append-nil}
use Rattle.timeouts_cancel.proofs.{MatchByMatch.waiting_on, matching.all_by.Goals.then-not-is_running+in_ok-push, matching.all_by.Goals.else-not-is_running}
use Rattle.timeouts_cancel.proofs.matching.all_by.Goals as goal

pub loop-r-preserved : goal.loop-r-preserved
loop-r-preserved c = elim c.if-not-is_running.branch [
  | then-not-is_running+in_ok-push w ↦ ap (λ v. v.items) w.all-is ∙ w.in_ok-push.ensures.items ∙ ap (λ rs. rs ++ c.in-Some.r ∷ []) c.loop-r.invariant
      ∙ sym (waiting_on c.args.table.now c.args.world.now c.args.key c.args.me c.loop-r.from c.in-Some.r c.in-Some.row false c.in-Some.ensures.some (sym c.is_running.ensures ∙ w.if-not-is_running.true))
  | else-not-is_running w ↦ ap (λ v. v.items) w.all-is ∙ c.loop-r.invariant ∙ sym (append-nil _)
      ∙ sym (waiting_on c.args.table.now c.args.world.now c.args.key c.args.me c.loop-r.from c.in-Some.r c.in-Some.row true c.in-Some.ensures.some (sym c.is_running.ensures ∙ w.if-not-is_running.false))
]
