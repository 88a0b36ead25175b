-- Programs that a thread can run.
use Rattle.std.specs.Prelude.{ℕ, ◌≡◌, ◌+◌, ◌<◌, ◌≤◌, ◌^◌, Some, List, length, slice_get}
use Rattle.scenario.specs.declared.setup.Instruction.{Instruction}
use Rattle.scenario.specs.declared.setup.Instruction.TheVariants.{Put, Push, Store, Enter, Reap, Close}

-- The fields of an instruction fit into 32 bits.
abbrev pub HasWidths : Instruction → Type 0
HasWidths (Push index) = index < 2 ^ 32
HasWidths (Enter to_submit min_complete flags) =
    (to_submit < 2 ^ 32) × (min_complete < 2 ^ 32) × (flags < 2 ^ 32)
HasWidths _ = Unit {0}

-- So do those of all instructions of all programs.
abbrev pub HaveWidths : List (List Instruction) → Type 0
HaveWidths programs =
    (t : ℕ) (p : List Instruction) → slice_get programs t ≡ Some p → (i : ℕ) (x : Instruction)
    → slice_get p i ≡ Some x → HasWidths x

-- The fields of an instruction fit into 32 bits, its slot is in the ring, and the bytes that it
-- stores are within the memory.
abbrev pub IsDone : ℕ → Instruction → Type 0
IsDone size (Put slot entry) = slot < size
IsDone size (Push index) = index < 2 ^ 32
IsDone size (Store address bytes) = address + length bytes ≤ 65536
IsDone size (Enter to_submit min_complete flags) =
    (to_submit < 2 ^ 32) × (min_complete < 2 ^ 32) × (flags < 2 ^ 32)
IsDone size Reap = Unit {0}
IsDone size (Close fd) = Unit {0}

-- A program has at most 4,096 instructions, and the machine can execute each.
pub record IsProgram (size : ℕ) (program : List Instruction) : Type 0 where
  pub short : length program ≤ 4096
  pub done : (i : ℕ) (x : Instruction) → slice_get program i ≡ Some x → IsDone size x
