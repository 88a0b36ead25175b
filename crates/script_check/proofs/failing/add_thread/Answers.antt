-- A failure is added at the end.
use Rattle.std.proofs.Common.{ap, ◌∙◌}
use Rattle.std.proofs.lemmas.List.Elements.{All-push, All-same}
use Rattle.script_check.specs.SureFailures.{IsOfPut}
use Rattle.script_check.proofs.failing.add_thread.Goals as goal
use Rattle.script_check.proofs.failing.add_thread.Goals.{in-Some+in_ok-push, in_default-failure_at}

pub loop-index-preserved : goal.loop-index-preserved
loop-index-preserved c =
    elim c.match-failure_at.branch [
      | in-Some+in_ok-push w ↦ λ old.
          All-same (IsOfPut c.args.setup.now.threads) _ _
          (ap (λ v. v.items) w.found-is ∙ w.in_ok-push.ensures.items)
          (All-push (IsOfPut c.args.setup.now.threads) _ _ (c.loop-index.invariant old) w.in-Some.ensures)
      | in_default-failure_at w ↦ λ old.
          All-same (IsOfPut c.args.setup.now.threads) _ _
          (ap (λ v. v.items) w.found-is) (c.loop-index.invariant old)
    ]
