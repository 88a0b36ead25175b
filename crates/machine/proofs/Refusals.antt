-- The reported refusal is the one with the smallest number among the causes of an event.
use Rattle.machine.proofs.Common.{◌≡◌, ℕ, Bool, true, false, cond, refl, sym, ◌∙◌, ap, subst, List, [], ◌∷◌, length, ◌+◌, ◌<◌, ◌⊎◌, inl, inr, arith, Option, Some, None, is_none, not, ◌==◌, ◌&&◌, slice_get, nat_le, unwrap_or, find, option_map_or, option_and_then, cases_order, le-leb, lt-leb, slice_get_cases, slice_get_within, Row, Choice, Outcome, is_cancel, outcome_of, Stage, Ready, Waiting, is_held_by, ThreadState, choice_refusal, flushed, full_refusal, instruction_refusal, next_refusal, outcome_refusal, ready_count, refusal, submission_refusal, thread_refusal, Machine, Instruction, Put, Push, Store, Enter, Reap, Close, Event, Step, Take, Sleep, Issue, Finish, Expire, Tick, sub_list, waiting, Refusal}
use Rattle.machine.specs.Refusals.{cannot_end, executes, has_cause, is_at_end, is_bad_choice, is_in_full, is_push, is_reap, is_unready, is_waits, number_of, submits_too_many, waits_still}
use Rattle.scenario.specs.declared.event.Refusal.TheVariants.{NoSuchThread, ThreadDone, SqFull, NothingToReap, StillWaiting, NoSuchRequest, WrongPhase, NotEligible, NotReady, NotDue, BadChoice, NoPoller, Asleep, NotIdle, ClockFull, RequestsFull, Memory}

-- ---- The first of all refusals, by number

abbrev refusals : List Refusal
refusals = NoSuchThread ∷ ThreadDone ∷ SqFull ∷ NothingToReap ∷ StillWaiting ∷ NoSuchRequest ∷ WrongPhase ∷ NotEligible ∷ NotReady ∷ NotDue ∷ BadChoice ∷ NoPoller ∷ Asleep ∷ NotIdle ∷ ClockFull ∷ RequestsFull ∷ Memory ∷ []

-- Each refusal is in the list at the index that its number gives.
refusal_at : (k : Refusal) → (i : ℕ) × (number_of k ≡ i + 1) × (slice_get refusals i ≡ Some k)
refusal_at NoSuchThread = (0, refl, refl)
refusal_at ThreadDone = (1, refl, refl)
refusal_at SqFull = (2, refl, refl)
refusal_at NothingToReap = (3, refl, refl)
refusal_at StillWaiting = (4, refl, refl)
refusal_at NoSuchRequest = (5, refl, refl)
refusal_at WrongPhase = (6, refl, refl)
refusal_at NotEligible = (7, refl, refl)
refusal_at NotReady = (8, refl, refl)
refusal_at NotDue = (9, refl, refl)
refusal_at BadChoice = (10, refl, refl)
refusal_at NoPoller = (11, refl, refl)
refusal_at Asleep = (12, refl, refl)
refusal_at NotIdle = (13, refl, refl)
refusal_at ClockFull = (14, refl, refl)
refusal_at RequestsFull = (15, refl, refl)
refusal_at Memory = (16, refl, refl)

-- Refusals with the same number are equal.
same_number : (j k : Refusal) → number_of j ≡ number_of k → j ≡ k
same_number j k e = let x = refusal_at j in let y = refusal_at k in let same : x.0 ≡ y.0 = omega (arith, x.1, y.1, e) in ap (λ o. unwrap_or o j) (sym x.2 ∙ ap (slice_get refusals) same ∙ y.2)

-- The refusals are numbered consecutively from i to the last.
Numbered : ℕ → List Refusal → Type 0
Numbered i [] = i ≡ 18
Numbered i (x ∷ xs) = (number_of x ≡ i) × Numbered (i + 1) xs

abbrev all_numbered : Numbered 1 refusals
unfolding Numbered
all_numbered = (refl, (refl, (refl, (refl, (refl, (refl, (refl, (refl, (refl, (refl, (refl, (refl, (refl, (refl, (refl, (refl, (refl, refl)))))))))))))))))

-- The result is the refusal with the smallest number that passes the test, or none if none does.
abbrev IsLeastCause : (Refusal → Bool) → Option Refusal → Type 0
IsLeastCause test None = (k : Refusal) → test k ≡ false
IsLeastCause test (Some n) = (test n ≡ true) × ((k : Refusal) → number_of k < number_of n → test k ≡ false)

lt_or_same : (a b : ℕ) → a < b + 1 → (a < b) ⊎ (a ≡ b)
lt_or_same a b l = elim (cases_order a b) [ inl same ↦ inr same | inr o ↦ elim o [ inl under ↦ inl under | inr over ↦ absurd (omega (arith, l, over)) ] ]

most : (k : Refusal) (i : ℕ) → i ≡ 18 → number_of k < i
most k i e = let x = refusal_at k in let l = slice_get_within refusals x.0 k x.2 in omega (arith, x.1, l, e)

first_is_least : (test : Refusal → Bool) (i : ℕ) (xs : List Refusal) → Numbered i xs → ((k : Refusal) → number_of k < i → test k ≡ false) → IsLeastCause test (find test xs)
unfolding Numbered
first_is_least test i [] e below = λ k. below k (most k i e)
first_is_least test i (x ∷ xs) e below = by (λ b. first_is_least test (i + 1) xs e.1 b) (test x) refl
  where
    further : test x ≡ false → (k : Refusal) → number_of k < i + 1 → test k ≡ false
    further h k l = elim (lt_or_same (number_of k) i l) [ inl under ↦ below k under | inr same ↦ ap test (same_number k x (same ∙ sym e.0)) ∙ h ]

    by : (((k : Refusal) → number_of k < i + 1 → test k ≡ false) → IsLeastCause test (find test xs)) → (b : Bool) → test x ≡ b → IsLeastCause test (cond b (Some x) (find test xs))
    by = grind (arith, further)

-- ---- Events

abbrev First : Machine → Event → Type 0
First m e = refusal m e ≡ find (has_cause m e) refusals

take_first : (m : Machine) (n : ℕ) → First m (Take n)
take_first = grind arith

sleep_first : (m : Machine) → First m Sleep
sleep_first = grind arith

issue_first : (m : Machine) (r : ℕ) → First m (Issue r)
issue_first = grind arith

-- An issued request that is no timer.
choice_first : (m : Machine) (c : Choice) (row : Row) → choice_refusal (is_held_by m.table) m.world row c ≡ cond (is_unready m c row) (Some NotReady) (cond (cannot_end m c row) (Some BadChoice) None)
choice_first m c row = by (is_cancel row.entry.opcode) c (outcome_of (is_held_by m.table) m.world row c)
  where
    by : (b : Bool) (c : Choice) (o : Outcome) → cond b (full_refusal c) (outcome_refusal o) ≡ cond (not b && is_waits o) (Some NotReady) (cond (cond b (not (is_in_full c)) (is_bad_choice o)) (Some BadChoice) None)
    by = grind arith

finish_first : (m : Machine) (r : ℕ) (c : Choice) → First m (Finish r c)
finish_first = grind (arith, choice_first)

expire_first : (m : Machine) (r : ℕ) → First m (Expire r)
expire_first = grind arith

tick_first : (m : Machine) (d : ℕ) → First m (Tick d)
tick_first = grind arith

-- ---- Instructions

-- A thread is at the end of its program exactly if it has no next instruction.
ends : {X : Type 0} (xs : List X) (n : ℕ) → nat_le (length xs) n ≡ is_none (slice_get xs n)
ends xs n = elim (slice_get_cases xs n).1 [ inl there ↦ lt-leb (length xs) n there.1 ∙ ap is_none (sym there.2) | inr past ↦ le-leb (length xs) n past.0 ∙ ap is_none (sym past.1) ]

-- A flush doesn't change what a submission adds.
as_before : (m : Machine) (k : ℕ) (b : Bool) → submission_refusal (cond b (flushed m) m) k ≡ submission_refusal m k
unfolding sub_list
as_before = grind arith

enter_first : (m : Machine) (k w flags : ℕ) → instruction_refusal m (Enter k w flags) ≡ cond (submits_too_many m (Enter k w flags)) (Some RequestsFull) None
enter_first = grind (arith, as_before)

step_first : (m : Machine) (t : ℕ) → First m (Step t)
step_first m t = by (slice_get m.threads t)
  where
    at : (s : Stage) (o : Option Instruction) → next_refusal m s o ≡ cond (is_none o) (Some ThreadDone) (cond (option_map_or is_push (executes s o) false && (waiting m.submissions.head m.submissions.tail == length m.submissions.array)) (Some SqFull) (cond (option_map_or is_reap (executes s o) false && (ready_count m == 0)) (Some NothingToReap) (cond (waits_still m s) (Some StillWaiting) (cond (option_map_or (submits_too_many m) (executes s o) false) (Some RequestsFull) None))))
    at s None = refl
    at Ready (Some (Put slot entry)) = refl
    at Ready (Some (Push index)) = refl
    at Ready (Some (Store address bytes)) = refl
    at Ready (Some (Enter k w flags)) = enter_first m k w flags
    at Ready (Some Reap) = refl
    at Ready (Some (Close fd)) = refl
    at (Waiting n w) (Some i) = refl

    by : (o : Option ThreadState) → thread_refusal m o ≡ cond (is_none o) (Some NoSuchThread) (cond (option_map_or is_at_end o false) (Some ThreadDone) (cond (option_map_or is_push (option_and_then (λ x. executes x.stage (slice_get x.program x.counter)) o) false && (waiting m.submissions.head m.submissions.tail == length m.submissions.array)) (Some SqFull) (cond (option_map_or is_reap (option_and_then (λ x. executes x.stage (slice_get x.program x.counter)) o) false && (ready_count m == 0)) (Some NothingToReap) (cond (option_map_or (λ x. waits_still m x.stage) o false) (Some StillWaiting) (cond (option_map_or (submits_too_many m) (option_and_then (λ x. executes x.stage (slice_get x.program x.counter)) o) false) (Some RequestsFull) None)))))
    by = grind (arith, ends, at)

first_is_refusal : (m : Machine) (e : Event) → refusal m e ≡ find (has_cause m e) refusals
first_is_refusal = grind (arith, step_first, take_first, sleep_first, issue_first, finish_first, expire_first, tick_first)

-- ---- The theorems

refusal_is_least : (m : Machine) (e : Event) → IsLeastCause (has_cause m e) (refusal m e)
refusal_is_least m e = subst (IsLeastCause (has_cause m e)) (sym (first_is_refusal m e)) (first_is_least (has_cause m e) 1 refusals all_numbered (λ k l. let x = refusal_at k in absurd (omega (arith, x.1, l))))

pub has_its_cause : (m : Machine) (e : Event) (n : Refusal) → refusal m e ≡ Some n → has_cause m e n ≡ true
has_its_cause m e n h = (subst (IsLeastCause (has_cause m e)) h (refusal_is_least m e)).0

pub least : (m : Machine) (e : Event) (n k : Refusal) → refusal m e ≡ Some n → number_of k < number_of n → has_cause m e k ≡ false
least m e n k h l = (subst (IsLeastCause (has_cause m e)) h (refusal_is_least m e)).1 k l

pub has_no_cause : (m : Machine) (e : Event) → refusal m e ≡ None → (n : Refusal) → has_cause m e n ≡ false
has_no_cause m e h = subst (IsLeastCause (has_cause m e)) h (refusal_is_least m e)
