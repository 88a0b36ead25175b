use Rattle.machine.proofs.Common.{◌≡◌, ℕ, ◌<◌, take, List, HasWidths, thread_start, Instruction}
use Rattle.std.specs.Prelude.{Some, slice_get, map}
use Rattle.machine.proofs.starting.start_threads.Given as goal

abbrev pub invariant-loop-program : goal.invariant-loop-program
invariant-loop-program l = (l.threads.items ≡ map thread_start (take l.program-index l.programs)) × ((t : ℕ) (p : List Instruction) → t < l.program-index → slice_get l.programs t ≡ Some p → (i : ℕ) (x : Instruction) → slice_get p i ≡ Some x → HasWidths x)
