use Rattle.machine.proofs.Common.{◌≡◌, ℕ, ◌<◌, take, Some, slice_get, HasWidths, Instruction}
use Rattle.machine.proofs.starting.start_thread.Given as goal

abbrev pub invariant-loop-instruction : goal.invariant-loop-instruction
invariant-loop-instruction l = (l.copies.items ≡ take l.instruction-index l.program) × ((i : ℕ) (x : Instruction) → i < l.instruction-index → slice_get l.program i ≡ Some x → HasWidths x)
