-- A thread is stuck exactly if a ring is the reason why its next step is refused.
use Rattle.finding_rules.proofs.Common.{and-true, and-false, ◌≡◌, ℕ, ◌<◌, Bool, true, false, refl, List, length, map, Option, Some, None, option_map, slice_get, not, nat_lt, ◌&&◌, if◌then◌else◌, option_map_or, option_and_then, Stage, Ready, Waiting, Step, Refusal, SqFull, NothingToReap, StillWaiting, RequestsFull, Instruction, Push, Enter, Reap, Setup, Poller, Machine, refusal, thread_refusal, next_refusal, instruction_refusal, enter_refusal, alone_refusal, submission_refusal, before_submission, is_busy, is_unknown, ThreadState, program_of, instruction_at, sym, ap, ◌∙◌, arith, lt-ltb, length-map, slice_get_within, slice_get-map, is_held_up, is_blocked, is_stuck, is_of_ring}

if_full : (b : Bool) → b ≡ is_of_ring (if b then Some SqFull else None)
if_full true = refl
if_full false = refl

if_empty : (b : Bool) → b ≡ is_of_ring (if b then Some NothingToReap else None)
if_empty true = refl
if_empty false = refl

if_waiting : (b : Bool) → false ≡ is_of_ring (if b then Some StillWaiting else None)
if_waiting true = refl
if_waiting false = refl

if_large : (b : Bool) → false ≡ is_of_ring (if b then Some RequestsFull else None)
if_large true = refl
if_large false = refl

if_none : (b : Bool) (o : Option Refusal) → false ≡ is_of_ring o → false ≡ is_of_ring (if b then None else o)
if_none true o h = refl
if_none false o h = h

enter : (m : Machine) (p : Option Poller) (k flags : ℕ) → false ≡ is_of_ring (enter_refusal m p k flags)
enter m (Some p) k flags = refl
enter m None k flags = if_none (is_unknown flags) (alone_refusal m k flags) (if_none (is_busy (before_submission m k flags) k) (submission_refusal (before_submission m k flags) k) (if_large _))

instruction : (m : Machine) (x : Instruction) → is_blocked m x ≡ is_of_ring (instruction_refusal m x)
instruction m (Push index) = if_full _
instruction m (Enter to_submit min_complete flags) = enter m m.poller to_submit flags
instruction m Reap = if_empty _
instruction m x = refl

next : (m : Machine) (stage : Stage) (o : Option Instruction) → (option_map_or (is_blocked m) o false && not (is_held_up stage)) ≡ is_of_ring (next_refusal m stage o)
next m stage None = refl
next m Ready (Some x) = and-true (is_blocked m x) ∙ instruction m x
next m (Waiting n w) (Some x) = and-false (is_blocked m x) ∙ if_waiting _

-- Whether thread t is stuck, by its state.
abbrev pub stuck_in : Setup → Machine → ℕ → Option ThreadState → Bool
stuck_in s m t o =
    nat_lt t (length s.threads)
    && (option_map_or (is_blocked m) (instruction_at s (Step t) (option_map (λ (x : ThreadState). x.counter) o)) false && option_map_or (λ (x : ThreadState). not (is_held_up x.stage)) o false)

pub stuck_refused : (s : Setup) (m : Machine) (t : ℕ) → map program_of m.threads ≡ s.threads → is_stuck s m t ≡ is_of_ring (refusal m (Step t))
stuck_refused s m t programs = by (slice_get m.threads t) refl
  where
    by : (o : Option ThreadState) → slice_get m.threads t ≡ o → stuck_in s m t o ≡ is_of_ring (thread_refusal m o)
    by None e = and-false (nat_lt t (length s.threads))
    by (Some x) e =
        let there : slice_get s.threads t ≡ Some x.program = ap (λ (ps : List (List Instruction)). slice_get ps t) (sym programs) ∙ slice_get-map program_of m.threads t ∙ ap (option_map program_of) e in
        let below : t < length m.threads = slice_get_within m.threads t x e in
        let same : length m.threads ≡ length s.threads = sym (length-map m.threads program_of) ∙ ap length programs in
        let within : nat_lt t (length s.threads) ≡ true = lt-ltb t (length s.threads) (omega (arith, below, same)) in
        ap (λ (b : Bool). b && (option_map_or (is_blocked m) (instruction_at s (Step t) (Some x.counter)) false && not (is_held_up x.stage))) within
        ∙ ap (λ (o : Option (List Instruction)). option_map_or (is_blocked m) (option_and_then (λ program. slice_get program x.counter) o) false && not (is_held_up x.stage)) there
        ∙ next m x.stage (slice_get x.program x.counter)
