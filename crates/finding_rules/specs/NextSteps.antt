-- What a thread does next, as far as a condition depends on it.
use Rattle.std.specs.Prelude.{ℕ, Bool, true, false, nat_lt, if◌then◌else◌, Option, Some, None, slice_get, length}
use Rattle.finding_rules.specs.Common.{Stage, Ready, Waiting, Step, Instruction, Push, Reap, Setup, Machine, ThreadState, Next, instruction_at}
use Rattle.finding_rules.specs.Conditions.{is_blocked}
use Rattle.finding_rules.specs.declared.conditions.Next.TheVariants as next

-- What a thread with a stage and a next instruction does next.
abbrev pub next_at : Stage → Option Instruction → Next
next_at (Waiting submitted needed) x = next.Waits
next_at Ready (Some (Push index)) = next.Pushes
next_at Ready (Some Reap) = next.Reaps
next_at Ready x = next.Other

-- What thread t does next, if it belongs to the setup.
abbrev pub thread_next : Setup → ℕ → Option ThreadState → Next
thread_next s t None = next.Other
thread_next s t (Some x) = if nat_lt t (length s.threads) then next_at x.stage (instruction_at s (Step t) (Some x.counter)) else next.Other

abbrev pub next_of : Setup → Machine → ℕ → Next
next_of s m t = thread_next s t (slice_get m.threads t)

-- Whether it waits in its enter.
abbrev pub is_waiting : Next → Bool
is_waiting next.Waits = true
is_waiting x = false

-- Whether it pushes or reaps, and that can't be done yet.
abbrev pub blocks : Machine → Next → Bool
blocks m next.Pushes = is_blocked m (Push 0)
blocks m next.Reaps = is_blocked m Reap
blocks m x = false
