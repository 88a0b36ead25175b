use Rattle.std.proofs.Common.{ℕ, ◌∷◌, []}
use Rattle.stops.specs.declared.steps.EditorThread.TheVariants.{Run, Thread}
use Rattle.dap_variables.proofs.Counted.{one_more}
use Rattle.dap_views.proofs.editor_threads.threads.Goals as goal

pub loop-number-preserved : goal.loop-number-preserved
loop-number-preserved c =
    one_more (λ (t : ℕ). Thread t) c.loop-number.number (Run ∷ []) c.loop-number.list.items c.push-in-loop-number.new.self.items c.in_ok-push-2.ensures.items c.loop-number.invariant
