-- Which instructions are reported as failing in every run.
use Rattle.std.specs.Prelude.{◌≡◌, ℕ, List, Some, slice_get}
use Rattle.entries.specs.declared.entry.Sqe.{Sqe}
use Rattle.scenario.specs.declared.setup.Instruction.{Instruction}
use Rattle.scenario.specs.declared.setup.Instruction.TheVariants.{Put}
use Rattle.script_check.specs.declared.failing.SureFailure.{SureFailure}

-- A failure names a thread and an instruction of its program that puts an entry.
pub record IsOfPut (threads : List (List Instruction)) (f : SureFailure) : Type 0 where
  pub program : List Instruction
  pub slot : ℕ
  pub entry : Sqe
  pub of_thread : slice_get threads f.thread ≡ Some program
  pub puts : slice_get program f.instruction ≡ Some (Put slot entry)
