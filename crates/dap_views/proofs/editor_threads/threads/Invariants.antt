use Rattle.std.proofs.Common.{◌≡◌, ◌∷◌, map}
use Rattle.std.specs.List.{range_with_len}
use Rattle.stops.specs.declared.steps.EditorThread.TheVariants.{Run, Thread}
use Rattle.dap_views.proofs.editor_threads.threads.Given as goal

abbrev pub invariant-loop-number : goal.invariant-loop-number
invariant-loop-number l = l.list.items ≡ Run ∷ map Thread (range_with_len 0 l.number)
