-- The instructions of the threads' programs.
use Rattle.finding_kinds.specs.Common.{ℕ, Option, Some, None, slice_get, option_and_then, Event, Step, Instruction, Setup}

-- The instruction at a program counter of the thread whose step the event is. None for any other
-- event.
abbrev pub instruction_at : Setup → Event → Option ℕ → Option Instruction
instruction_at s (Step t) (Some counter) = option_and_then (λ program. slice_get program counter) (slice_get s.threads t)
instruction_at s e _ = None
