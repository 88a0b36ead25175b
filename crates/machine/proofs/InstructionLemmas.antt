-- What well-formedness says about a thread's next instruction.
use Rattle.machine.proofs.Common.{◌≡◌, ℕ, sym, ◌∙◌, ap, subst, List, length, ◌+◌, ◌<◌, ◌^◌, arith, Some, slice_get, slice_get_within, IsDone, ThreadState, next_of, WellFormed, Instruction, Machine}

-- There is a thread, whose next instruction this is.
pub thread_of : (m : Machine) (t : ℕ) (i : Instruction) → next_of (slice_get m.threads t) ≡ Some i → (x : ThreadState) × (slice_get m.threads t ≡ Some x) × (slice_get x.program x.counter ≡ Some i)
thread_of = grind arith

pub thread_there : (m : Machine) (t : ℕ) (i : Instruction) → next_of (slice_get m.threads t) ≡ Some i → t < length m.threads
thread_there m t i h = let x = thread_of m t i h in slice_get_within m.threads t x.0 x.1

pub can_advance : (m : Machine) (t : ℕ) → WellFormed m → (x : ThreadState) → slice_get m.threads t ≡ Some x → x.counter + 1 < 2 ^ 32
can_advance m t f x h = let s = f.mostly.threads t x h in omega (arith, s.within, s.program.short)

pub is_done : (m : Machine) (t : ℕ) (i : Instruction) → WellFormed m → next_of (slice_get m.threads t) ≡ Some i → IsDone (length m.submissions.slots) i
is_done m t i f h = let x = thread_of m t i h in (f.mostly.threads t x.0 x.1).program.done x.0.counter i x.2

-- It is the same after a change that doesn't affect the threads.
pub there_still : (m n : Machine) (t : ℕ) (i : Instruction) → n.threads ≡ m.threads → next_of (slice_get m.threads t) ≡ Some i → t < length n.threads
there_still m n t i e h = subst (λ (ts : List ThreadState). t < length ts) (sym e) (thread_there m t i h)

pub can_advance_still : (m n : Machine) (t : ℕ) → n.threads ≡ m.threads → WellFormed m → (x : ThreadState) → slice_get n.threads t ≡ Some x → x.counter + 1 < 2 ^ 32
can_advance_still m n t e f x h = can_advance m t f x (ap (λ ts. slice_get ts t) (sym e) ∙ h)
