-- The conditions of a thread, by what it does next.
use Rattle.finding_rules.proofs.Common.{and-true, and-false, ◌≡◌, ℕ, Bool, true, false, length, refl, ◌&&◌, not, nat_lt, if◌then◌else◌, Option, Some, None, slice_get, option_map_or, Stage, Ready, Waiting, Step, Instruction, Push, Reap, Setup, Machine, ThreadState, instruction_at, Next, sym, ap, ◌∙◌, and_right, is_held_up, is_blocked, is_stuck, waits, next_at, next_of, is_waiting, blocks, thread_next}
use Rattle.finding_rules.proofs.StuckSteps.{stuck_in}
use Rattle.finding_rules.specs.declared.conditions.Next.TheVariants as next

waits_at : (stage : Stage) (o : Option Instruction) → is_waiting (next_at stage o) ≡ is_held_up stage
waits_at (Waiting n w) o = refl
waits_at Ready (Some (Push index)) = refl
waits_at Ready (Some Reap) = refl
waits_at Ready o = refl

waits_by : (s : Setup) (m : Machine) (t : ℕ) → is_waiting (next_of s m t) ≡ waits s m t
waits_by s m t = by (slice_get m.threads t)
  where
    by : (o : Option ThreadState) → is_waiting (thread_next s t o) ≡ (nat_lt t (length s.threads) && option_map_or (λ (x : ThreadState). is_held_up x.stage) o false)
    by None = sym (and-false (nat_lt t (length s.threads)))
    by (Some x) = within (nat_lt t (length s.threads))
      where
        within : (b : Bool) → is_waiting (if b then next_at x.stage (instruction_at s (Step t) (Some x.counter)) else next.Other) ≡ (b && is_held_up x.stage)
        within true = waits_at x.stage (instruction_at s (Step t) (Some x.counter))
        within false = refl

-- A thread waits exactly if it does that next.
pub waits_next : (s : Setup) (m : Machine) (t : ℕ) (x : Next) → x ≡ next_of s m t → is_waiting x ≡ waits s m t
waits_next s m t x e = ap is_waiting e ∙ waits_by s m t

blocks_at : (m : Machine) (stage : Stage) (o : Option Instruction) → blocks m (next_at stage o) ≡ (option_map_or (is_blocked m) o false && not (is_held_up stage))
blocks_at m (Waiting n w) o = sym (and-false (option_map_or (is_blocked m) o false))
blocks_at m Ready (Some (Push index)) = sym (and-true (is_blocked m (Push index)))
blocks_at m Ready (Some Reap) = sym (and-true (is_blocked m Reap))
blocks_at m Ready o = refl

blocks_by : (s : Setup) (m : Machine) (t : ℕ) → blocks m (next_of s m t) ≡ is_stuck s m t
blocks_by s m t = by (slice_get m.threads t)
  where
    by : (o : Option ThreadState) → blocks m (thread_next s t o) ≡ stuck_in s m t o
    by None = sym (and_right (nat_lt t (length s.threads)) _ refl)
    by (Some x) = within (nat_lt t (length s.threads))
      where
        within : (b : Bool) → blocks m (if b then next_at x.stage (instruction_at s (Step t) (Some x.counter)) else next.Other) ≡ (b && (option_map_or (is_blocked m) (instruction_at s (Step t) (Some x.counter)) false && not (is_held_up x.stage)))
        within true = blocks_at m x.stage (instruction_at s (Step t) (Some x.counter))
        within false = refl

-- A thread is stuck exactly if what it does next can't be done.
pub stuck_next : (s : Setup) (m : Machine) (t : ℕ) (x : Next) → x ≡ next_of s m t → blocks m x ≡ is_stuck s m t
stuck_next s m t x e = ap (blocks m) e ∙ blocks_by s m t
