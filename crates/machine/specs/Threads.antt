-- Threads of the program, and their places.
use Rattle.std.specs.Prelude.{ℕ, ℤ, pos, ◌<◌, ◌^◌, Bool, true, false, Option, Some, None, option_map, slice_get, List, length, FitsSigned}
use Rattle.machine.specs.Common.{Ready, Stage, View, Place, Instruction, Cqe, ProgramCounter, ThreadStage, Last, Got, Value, w64}
use Rattle.places.specs.declared.value.Value.TheVariants.{Number, Signed, Staged, Reaped}

-- A thread: its program, the index of its next instruction, whether it waits, the result of its
-- last Enter or Close, and the completion that it reaped last.
pub record ThreadState : Type 0 where
  pub program : List Instruction
  pub counter : ℕ
  pub stage : Stage
  pub last : ℤ
  pub got : Option Cqe

-- A thread at the start of its program.
abbrev pub thread_start : List Instruction → ThreadState
thread_start program =
    record { program = program; counter = 0; stage = Ready; last = pos 0; got = None }

abbrev pub program_of : ThreadState → List Instruction
program_of x = x.program

-- Whether the place belongs to a thread.
abbrev pub threads_owns : Place → Bool
threads_owns (ProgramCounter t) = true
threads_owns (ThreadStage t) = true
threads_owns (Last t) = true
threads_owns (Got t) = true
threads_owns _ = false

-- The value of each place of a thread.
abbrev pub threads_seen : List ThreadState → View
threads_seen ts (ProgramCounter t) = option_map (λ x. Number x.counter) (slice_get ts t)
threads_seen ts (ThreadStage t) = option_map (λ x. Staged x.stage) (slice_get ts t)
threads_seen ts (Last t) = option_map (λ x. Signed x.last) (slice_get ts t)
threads_seen ts (Got t) = option_map (λ x. Reaped x.got) (slice_get ts t)
threads_seen ts _ = None

-- Whether a value may be written into a place of a thread.
abbrev pub threads_can_put : List ThreadState → Place → Option Value → Type 0
threads_can_put ts (ProgramCounter t) (Some (Number n)) = (t < length ts) × (n < 2 ^ 32)
threads_can_put ts (ThreadStage t) (Some (Staged s)) = t < length ts
threads_can_put ts (Last t) (Some (Signed n)) = (t < length ts) × FitsSigned w64 n
threads_can_put ts (Got t) (Some (Reaped c)) = t < length ts
threads_can_put ts p v = ⊥
