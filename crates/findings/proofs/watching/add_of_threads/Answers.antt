use Rattle.findings.proofs.Common.{[], ◌∷◌, ◌++◌, ◌∙◌, ap}
use Rattle.findings.proofs.Lasting.{fresh_more}
use Rattle.findings.proofs.watching.add_of_threads.Goals as goal

pub loop-thread-preserved : goal.loop-thread-preserved
loop-thread-preserved c =
    fresh_more c.args.condition c.loop-thread.thread _ c.loop-thread.list.items _ c.loop-thread.invariant (c.in_ok-push.ensures.items ∙ ap (λ w. c.loop-thread.list.items ++ w ∷ []) c.fresh.ensures)
