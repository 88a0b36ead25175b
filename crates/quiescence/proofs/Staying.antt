-- A machine that is over stays over.
use Rattle.std.proofs.Common.{◌≡◌, ℕ, zero, suc, Bool, true, false, refl, sym, ap, subst, ◌∙◌, inl, inr, ◌⊎◌, ◌≤◌, ◌<◌, ◌+◌, ◌^◌, arith, if◌then◌else◌, []}
use Rattle.std.specs.Prelude.{Option, Some, None, slice_get, nat_lt, nat_le}
use Rattle.std.specs.Option.{option_map_or}
use Rattle.std.proofs.lemmas.Bool.Decides.{nat_tests}
use Rattle.entries.specs.declared.row.Row.{Row}
use Rattle.entries.specs.declared.row.Phase.{Phase}
use Rattle.entries.specs.declared.row.Phase.TheVariants.{Queued, Issued, Ended}
use Rattle.opcodes.specs.Opcodes.{is_timer}
use Rattle.places.specs.declared.value.Stage.{Stage}
use Rattle.places.specs.declared.value.Stage.TheVariants.{Ready, Waiting}
use Rattle.ring_words.specs.Rings.{waiting, sub_list}
use Rattle.scenario.specs.declared.setup.Instruction.{Instruction}
use Rattle.scenario.specs.declared.setup.Instruction.TheVariants.{Put, Push, Store, Enter, Reap, Close}
use Rattle.scenario.specs.declared.event.Event.{Event}
use Rattle.scenario.specs.declared.event.Event.TheVariants.{Step, Take, Sleep, Issue, Finish, Expire, Tick}
use Rattle.scenario.specs.declared.event.Refusal.{Refusal}
use Rattle.scenario.specs.declared.event.Refusal.TheVariants.{WrongPhase, NotDue, ClockFull}
use Rattle.sqpoll.specs.declared.poller.Poller.{Poller}
use Rattle.sqpoll.specs.declared.poller.Poller.TheVariants.{Awake, Asleep}
use Rattle.machine.specs.declared.whole.Machine.{Machine}
use Rattle.machine.specs.Threads.{ThreadState}
use Rattle.machine.specs.Deadlines.{issued_deadline}
use Rattle.machine.specs.Whole.{WellFormed}
use Rattle.machine.specs.Steps.{refusal, after, flushed, is_busy, submission_refusal, enter_refusal, instruction_refusal, next_refusal, thread_refusal, take_refusal, sleep_refusal, expire_refusal, with_poller, is_unknown}
use Rattle.machine.proofs.NothingTaken.{take_of_nothing, nothing_submitted}
use Rattle.machine.specs.Steps.{submitted}
use Rattle.ring_words.specs.Rings.{items_from}
use Rattle.quiescence.specs.Over.{IsIdle, IsOver}

-- ---- the steps of threads don't depend on the clock

abbrev at_clock : Machine → ℕ → Machine
at_clock m k = record m { clock = k }

alone_clock : (m : Machine) (c : ℕ) (b : Bool) (k : ℕ)
    → (if is_busy (if b then flushed (at_clock m c) else at_clock m c) k then None else submission_refusal (if b then flushed (at_clock m c) else at_clock m c) k)
    ≡ (if is_busy (if b then flushed m else m) k then None else submission_refusal (if b then flushed m else m) k)
alone_clock m c true k = refl
alone_clock m c false k = refl

enter_clock : (m : Machine) (c : ℕ) (p : Option Poller) (k flags : ℕ) → enter_refusal (at_clock m c) p k flags ≡ enter_refusal m p k flags
enter_clock m c (Some p) k flags = refl
enter_clock m c None k flags = ap (λ (o : Option Refusal). if is_unknown flags then None else o) (alone_clock m c _ k)

instruction_clock : (m : Machine) (c : ℕ) (i : Instruction) → instruction_refusal (at_clock m c) i ≡ instruction_refusal m i
instruction_clock m c (Put slot entry) = refl
instruction_clock m c (Push index) = refl
instruction_clock m c (Store address bytes) = refl
instruction_clock m c (Enter to_submit min_complete flags) = enter_clock m c m.poller to_submit flags
instruction_clock m c Reap = refl
instruction_clock m c (Close fd) = refl

next_clock : (m : Machine) (c : ℕ) (s : Stage) (i : Option Instruction) → next_refusal (at_clock m c) s i ≡ next_refusal m s i
next_clock m c s None = refl
next_clock m c Ready (Some i) = instruction_clock m c i
next_clock m c (Waiting n w) (Some i) = refl

thread_clock : (m : Machine) (c : ℕ) (o : Option ThreadState) → thread_refusal (at_clock m c) o ≡ thread_refusal m o
thread_clock m c None = refl
thread_clock m c (Some x) = next_clock m c x.stage (slice_get x.program x.counter)

take_clock : (m : Machine) (c : ℕ) (p : Option Poller) (n : ℕ) → take_refusal (at_clock m c) p n ≡ take_refusal m p n
take_clock m c None n = refl
take_clock m c (Some Awake) n = refl
take_clock m c (Some Asleep) n = refl

-- ---- with a poller, they don't depend on whether it sleeps

instruction_asleep : (m : Machine) (p : Poller) → m.poller ≡ Some p → (i : Instruction) → instruction_refusal (with_poller m Asleep) i ≡ instruction_refusal m i
instruction_asleep m p e (Put slot entry) = refl
instruction_asleep m p e (Push index) = refl
instruction_asleep m p e (Store address bytes) = refl
instruction_asleep m p e (Enter to_submit min_complete flags) = ap (λ (o : Option Poller). enter_refusal m o to_submit flags) (sym e)
instruction_asleep m p e Reap = refl
instruction_asleep m p e (Close fd) = refl

next_asleep : (m : Machine) (p : Poller) → m.poller ≡ Some p → (s : Stage) (i : Option Instruction) → next_refusal (with_poller m Asleep) s i ≡ next_refusal m s i
next_asleep m p e s None = refl
next_asleep m p e Ready (Some i) = instruction_asleep m p e i
next_asleep m p e (Waiting n w) (Some i) = refl

thread_asleep : (m : Machine) (p : Poller) → m.poller ≡ Some p → (o : Option ThreadState) → thread_refusal (with_poller m Asleep) o ≡ thread_refusal m o
thread_asleep m p e None = refl
thread_asleep m p e (Some x) = next_asleep m p e x.stage (slice_get x.program x.counter)

awake : (m : Machine) (o : Option Poller) → sleep_refusal m o ≡ None → o ≡ Some Awake
awake m None h = absurd (cc)
awake m (Some Asleep) h = absurd (cc)
awake m (Some Awake) h = refl

pub sleep_stays : (m : Machine) → IsOver m → refusal m Sleep ≡ None → IsOver (after m Sleep)
sleep_stays m o s (Step t) h = o (Step t) (sym (thread_asleep m Awake (awake m m.poller s) (slice_get m.threads t)) ∙ h)
sleep_stays m o s (Take n) h = absurd (cc)
sleep_stays m o s Sleep h = tt
sleep_stays m o s (Issue r) h = o (Issue r) h
sleep_stays m o s (Finish r c) h = o (Finish r c) h
sleep_stays m o s (Expire r) h = o (Expire r) h
sleep_stays m o s (Tick d) h = o (Tick d) h

-- ---- a request that is due after an idle Tick was due before it

due_phase : (now next : ℕ) (row : Row) (p : Phase) (b : Bool) (d : Option ℕ) → row.phase ≡ p → is_timer row.entry.opcode ≡ b → row.deadline ≡ d → ((t : ℕ) → issued_deadline row ≡ Some t → (t ≤ now) ⊎ (next < t)) → expire_refusal next (Some row) ≡ None → expire_refusal now (Some row) ≡ None
due_phase now next row p false d g e f h x = absurd (let k : expire_refusal next (Some row) ≡ Some WrongPhase = rw e refl in cc)
due_phase now next row Queued true d g e f h x = absurd (let k : expire_refusal next (Some row) ≡ Some WrongPhase = rw (e, g) refl in cc)
due_phase now next row (Ended res) true d g e f h x = absurd (let k : expire_refusal next (Some row) ≡ Some WrongPhase = rw (e, g) refl in cc)
due_phase now next row Issued true None g e f h x = absurd (let k : expire_refusal next (Some row) ≡ Some NotDue = rw (e, g, f) refl in cc)
due_phase now next row Issued true (Some t) g e f h x =
    let is : issued_deadline row ≡ Some t = rw (g, f) refl in
    let was : expire_refusal next (Some row) ≡ (if nat_le t next then None else Some NotDue) = rw (e, g, f) refl in
    let will : expire_refusal now (Some row) ≡ (if nat_le t now then None else Some NotDue) = rw (e, g, f) refl in
    elim (h t is) [
      | inl past ↦ let yes : nat_le t now ≡ true = grind (arith, nat_tests) in will ∙ ap (λ (b : Bool). if b then None else Some NotDue) yes
      | inr far ↦ let no : nat_le t next ≡ false = grind (arith, nat_tests) in absurd (let k : expire_refusal next (Some row) ≡ Some NotDue = was ∙ ap (λ (b : Bool). if b then None else Some NotDue) no in cc)
    ]

due_before : (now next : ℕ) (o : Option Row) → ((t : ℕ) → option_map_or issued_deadline o None ≡ Some t → (t ≤ now) ⊎ (next < t)) → expire_refusal next o ≡ None → expire_refusal now o ≡ None
due_before now next None h x = x
due_before now next (Some row) h x = due_phase now next row row.phase (is_timer row.entry.opcode) row.deadline refl refl refl h x

both_ticks : (m : Machine) (d n : ℕ) → refusal (after m (Tick d)) (Tick n) ≡ None → refusal m (Tick (d + n)) ≡ None
both_ticks m d n h = let same : m.clock + (d + n) ≡ m.clock + d + n = omega arith in
    ap (λ (k : ℕ). if nat_lt k (2 ^ 64) then None else Some ClockFull) same ∙ h

pub tick_stays : (m : Machine) (d : ℕ) → IsOver m → refusal m (Tick d) ≡ None → IsOver (after m (Tick d))
tick_stays m d o s (Step t) h = o (Step t) (sym (thread_clock m (m.clock + d) (slice_get m.threads t)) ∙ h)
tick_stays m d o s (Take n) h = o (Take n) (sym (take_clock m (m.clock + d) m.poller n) ∙ h)
tick_stays m d o s Sleep h = tt
tick_stays m d o s (Issue r) h = o (Issue r) h
tick_stays m d o s (Finish r c) h = o (Finish r c) h
tick_stays m d o s (Expire r) h = o (Expire r) (due_before m.clock (m.clock + d) (slice_get m.table r) (λ t e. o (Tick d) s r t e) h)
tick_stays m d o s (Tick n) h = λ r t e. elim (o (Tick (d + n)) (both_ticks m d n h) r t e) [
  | inl past ↦ inl (omega (arith, past))
  | inr far ↦ inr (omega (arith, far))
]

-- ---- a Take of no entry changes nothing

none_wait : (m : Machine) → waiting m.submissions.head m.submissions.tail ≡ 0 → sub_list m.submissions ≡ []
unfolding sub_list
none_wait m w = ap (λ k. items_from m.submissions.array m.submissions.head k) w

as_nothing : (m : Machine) (n : ℕ) → sub_list m.submissions ≡ [] → submitted m n ≡ submitted m 0
as_nothing m zero e = refl
as_nothing m (suc n) e = rw e refl

nothing_done : (m : Machine) (n : ℕ) → WellFormed m → IsIdle m (Take n) → after m (Take n) ≡ m
nothing_done m n f (inl none) = ap (λ k. after m (Take k)) none ∙ take_of_nothing m f
nothing_done m n f (inr empty) = as_nothing m n (none_wait m empty) ∙ nothing_submitted m f

-- A machine that is over is over after each accepted event.
pub stays_over : (m : Machine) (e : Event) → WellFormed m → IsOver m → refusal m e ≡ None → IsOver (after m e)
stays_over m (Step t) f o h = absurd (o (Step t) h)
stays_over m (Take n) f o h = subst (λ (x : Machine). IsOver x) (sym (nothing_done m n f (o (Take n) h))) o
stays_over m Sleep f o h = sleep_stays m o h
stays_over m (Issue r) f o h = absurd (o (Issue r) h)
stays_over m (Finish r c) f o h = absurd (o (Finish r c) h)
stays_over m (Expire r) f o h = absurd (o (Expire r) h)
stays_over m (Tick d) f o h = tick_stays m d o h
