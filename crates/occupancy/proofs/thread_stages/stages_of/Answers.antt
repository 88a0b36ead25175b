use Rattle.occupancy.proofs.Common.{◌++◌, ◌∷◌, [], ThreadState, ap, sym, ◌∙◌, add-one}
use Rattle.occupancy.proofs.{Counting.map_ended, Counting.map_next, thread_stages.stages_of.Goals.in-Some+in_ok-push, thread_stages.stages_of.Goals.in_default}
use Rattle.occupancy.proofs.thread_stages.stages_of.Goals as goal

pub loop-thread-preserved : goal.loop-thread-preserved
loop-thread-preserved c =
    let stage = λ (x : ThreadState). x.stage in
    let threads = c.args.state.now.threads in
    let i = c.loop-thread.thread in
    elim c.match-stage_at.branch [
      | in-Some+in_ok-push w ↦
          let one = map_next stage threads i w.in-Some.stage (sym c.stage_at.ensures ∙ w.in-Some.is) in
          rw (w.stages-is, add-one) (w.in_ok-push.ensures.items ∙ (ap (λ xs. xs ++ w.in-Some.stage ∷ []) c.loop-thread.invariant ∙ sym one))
      | in_default w ↦
          let none = map_ended stage threads i (sym c.stage_at.ensures ∙ w.in_default.is) in
          rw (w.stages-is, add-one) (c.loop-thread.invariant ∙ sym none)
    ]
