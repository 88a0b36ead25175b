-- A machine in which no offered event is accepted is over.
use Rattle.std.proofs.Common.{◌≡◌, ℕ, zero, suc, ◌+◌, ◌-◌, ◌<◌, ◌≤◌, ◌^◌, Bool, true, false, List, [], ◌∷◌, map, refl, sym, ap, ◌∙◌, subst, inl, inr, ◌⊎◌, arith, length, min, if◌then◌else◌}
use Rattle.std.specs.Prelude.{Option, Some, None, is_none, nat_lt, ◌==◌, ◌||◌, not, slice_get}
use Rattle.std.specs.Option.{option_map_or, option_and_then}
use Rattle.std.proofs.lemmas.Option.{slice_get_past, slice_get_within}
use Rattle.std.proofs.lemmas.List.{length-take, length-map}
use Rattle.std.proofs.lemmas.Bool.{and_parts, cases_lt, or_cases, or_left, or_right}
use Rattle.std.proofs.lemmas.Bool.Decides.{nat_tests}
use Rattle.entries.specs.declared.choice.Choice.{Choice}
use Rattle.entries.specs.declared.choice.Choice.TheVariants.{Full}
use Rattle.entries.specs.declared.row.Row.{Row}
use Rattle.entries.specs.declared.row.Phase.{Phase}
use Rattle.entries.specs.declared.row.Phase.TheVariants.{Queued, Issued, Ended}
use Rattle.opcodes.specs.Opcodes.{is_timer}
use Rattle.links_drains.specs.Holding.{is_held_by}
use Rattle.ring_words.specs.Rings.{waiting, sub_list}
use Rattle.sqpoll.specs.declared.poller.Poller.{Poller}
use Rattle.sqpoll.specs.declared.poller.Poller.TheVariants.{Awake, Asleep}
use Rattle.scenario.specs.declared.event.Event.{Event}
use Rattle.scenario.specs.declared.event.Event.TheVariants.{Step, Take, Sleep, Issue, Finish, Expire, Tick}
use Rattle.scenario.specs.declared.event.Refusal.{Refusal}
use Rattle.scenario.specs.declared.event.Refusal.TheVariants.{RequestsFull, ClockFull, WrongPhase}
use Rattle.machine.specs.declared.whole.Machine.{Machine}
use Rattle.machine.specs.Deadlines.{deadline_at, issued_deadline}
use Rattle.machine.specs.Steps.{refusal, after, take_refusal, submission_refusal, issue_refusal, start_refusal, finish_refusal, expire_refusal, phase_refusal, choice_refusal}
use Rattle.machine.specs.Submission.{offered}
use Rattle.machine.specs.Whole.{WellFormed}
use Rattle.quiescence.specs.Over.{IsIdle, IsOver}
use Rattle.quiescence.proofs.InFull.{finishes_in_full}
use Rattle.prompt_order.proofs.Dues.{none_of}
use Rattle.sampling.specs.declared.draws.Source.{Source}
use Rattle.sampling.specs.Draws.{draw, mixed, below, source_of}
use Rattle.sampling.specs.Locks.{holds, locks, any_below, is_locked}
use Rattle.sampling.specs.Offers.{if_ahead, offer_of, step_offer, take_of, awake_offer, poller_offer_by, poller_offer, drawn_choice, finish_offer, phase_offer, row_offer, smaller_of, least_value, least_ahead, tick_to, clock_offer}
use Rattle.sampling.specs.Choosing.{NoneChosen}
use Rattle.sampling.specs.Samples.{AllNext, IsSample}
use Rattle.sampling.specs.declared.draws.SampleOptions.{SampleOptions}
use Rattle.sampling.proofs.RunLemmas.{few_threads, next_accepted}
use Rattle.scenario.specs.Setups.{setup_refusal}
use Rattle.scenario.specs.declared.setup.Setup.{Setup}
use Rattle.machine.specs.Runs.{start, run}
use Rattle.machine.specs.Threads.{program_of, thread_start}
use Rattle.machine.proofs.Formed.{formed_after}
use Rattle.machine.proofs.Growing.{grows_after}
use Rattle.sampling.proofs.Deadlines.{ahead_at}
use Rattle.sampling.proofs.Offering.{offer_thread, offer_row, no_thread}

not_ready : (s : Source) (m : Machine) (actor : ℕ) (e : Event) → NoneChosen s m → offer_of s m actor ≡ Some e → refusal m e ≡ None → ⊥
not_ready s m actor e n o r = n.none actor e (record { offered = o; accepted = r })

-- ---- threads

some_below : (f : ℕ → Bool) (n : ℕ) → any_below f n ≡ true → (k : ℕ) × (k < n) × (f k ≡ true)
some_below f zero h = absurd (cc)
some_below f (suc n) h = elim (or_cases (any_below f n) (f n) h) [
  | inl before ↦ let k = some_below f n before in let low = k.1 in (k.0, omega (arith, low), k.2)
  | inr here ↦ (n, omega arith, here)
]

pub step_free : (s : Source) (m : Machine) (t : ℕ) → t < 16 → ((s.unlocked || not (is_locked m)) || option_map_or holds (slice_get m.threads t) false) ≡ true → offer_of s m t ≡ Some (Step t)
unfolding step_offer
step_free s m t low h = offer_thread s m t low ∙ ap (λ (b : Bool). if b then Some (Step t) else None) h

is_there : (m : Machine) (t : ℕ) → refusal m (Step t) ≡ None → t < length m.threads
is_there m t h = elim (cases_lt t (length m.threads)) [
  | inl low ↦ low
  | inr high ↦ absurd (no_thread m t (slice_get_past m.threads t high) h)
]

pub not_free : (u l : Bool) → (u || not l) ≡ false → l ≡ true
not_free true l h = absurd (cc)
not_free false true h = refl
not_free false false h = absurd (cc)

pub holder : (m : Machine) → is_locked m ≡ true → (k : ℕ) × (k < length m.threads) × (locks m k ≡ true)
unfolding is_locked
holder m h = some_below (locks m) (length m.threads) h

no_step : (s : Source) (m : Machine) (t : ℕ) (b : Bool) → (s.unlocked || not (is_locked m)) ≡ b → length m.threads ≤ 16 → NoneChosen s m → refusal m (Step t) ≡ None → ⊥
no_step s m t true e few n h =
    let there = is_there m t h in
    not_ready s m t (Step t) n (step_free s m t (omega (arith, there, few)) (or_left _ _ e)) h
no_step s m t false e few n h =
    let k = holder m (not_free s.unlocked (is_locked m) e) in
    let low = k.1 in
    let both = and_parts (option_map_or holds (slice_get m.threads k.0) false) (is_none (refusal m (Step k.0))) k.2 in
    not_ready s m k.0 (Step k.0) n (step_free s m k.0 (omega (arith, low, few)) (or_right _ _ both.0)) (none_of (refusal m (Step k.0)) both.1)

-- ---- the poller

fewer : (rows k n : ℕ) → k ≤ n → (if nat_lt 65536 (rows + n) then Some RequestsFull else None) ≡ None → (if nat_lt 65536 (rows + k) then Some RequestsFull else None) ≡ None
fewer rows k n le h = by (nat_lt 65536 (rows + n)) (nat_lt 65536 (rows + k)) refl refl h
  where
    by : (a b : Bool) → nat_lt 65536 (rows + n) ≡ a → nat_lt 65536 (rows + k) ≡ b → (if a then Some RequestsFull else None) ≡ None → (if b then Some RequestsFull else None) ≡ None
    by a false p q x = refl
    by true true p q x = x
    by false true p q x = absurd (grind (arith, nat_tests))

one_taken : (m : Machine) (n : ℕ) → submission_refusal m (suc n) ≡ None → submission_refusal m 1 ≡ None
one_taken m n h =
    let a = length-take (suc n) (sub_list m.submissions) in
    let b = length-take 1 (sub_list m.submissions) in
    let le : length (offered m.submissions 1) ≤ length (offered m.submissions (suc n)) = omega (arith, a, b) in
    fewer (length m.table) (length (offered m.submissions 1)) (length (offered m.submissions (suc n))) le h

either_taken : (m : Machine) (w : ℕ) (b c : Bool) → is_none (refusal m (Take w)) ≡ c → refusal m (Take 1) ≡ None → refusal m (if b then Take 1 else (if c then Take w else Take 1)) ≡ None
either_taken m w true c e h = h
either_taken m w false true e h = none_of (refusal m (Take w)) e
either_taken m w false false e h = h

awake_offers : (s : Source) (m : Machine) (w : ℕ) → m.poller ≡ Some Awake → waiting m.submissions.head m.submissions.tail ≡ suc w → offer_of s m 16 ≡ Some (take_of m (suc w) (draw (mixed s.key 16 m.submissions.head) 0))
unfolding poller_offer
awake_offers s m w p e =
    let some : (suc w == 0) ≡ false = grind (arith, nat_tests) in
    let word = draw (mixed s.key 16 m.submissions.head) 0 in
    ap (λ o. poller_offer_by s m o) p ∙ ap (λ (n : ℕ). Some (awake_offer m n word)) e
    ∙ ap (λ (b : Bool). Some (if b then Sleep else take_of m (suc w) word)) some

some_wait : (s : Source) (m : Machine) (n w : ℕ) → m.poller ≡ Some Awake → waiting m.submissions.head m.submissions.tail ≡ suc w → NoneChosen s m → submission_refusal m (suc n) ≡ None → ⊥
some_wait s m n w p e none h =
    let one : refusal m (Take 1) ≡ None = ap (λ o. take_refusal m o 1) p ∙ one_taken m n h in
    not_ready s m 16 _ none (awake_offers s m w p e) (either_taken m (suc w) (below 2 (draw (mixed s.key 16 m.submissions.head) 0) == 0) (is_none (refusal m (Take (suc w)))) refl one)

idle_by : (s : Source) (m : Machine) (n w : ℕ) (o : Option Poller) → m.poller ≡ o → waiting m.submissions.head m.submissions.tail ≡ w → NoneChosen s m → take_refusal m o n ≡ None → (n ≡ 0) ⊎ (waiting m.submissions.head m.submissions.tail ≡ 0)
idle_by s m n w None p e none h = absurd (cc)
idle_by s m n w (Some Asleep) p e none h = absurd (cc)
idle_by s m zero w (Some Awake) p e none h = inl refl
idle_by s m (suc n) zero (Some Awake) p e none h = inr e
idle_by s m (suc n) (suc w) (Some Awake) p e none h = absurd (some_wait s m n w p e none h)

-- ---- requests

row_is : (s : Source) (m : Machine) (r : ℕ) (row : Row) (p : Phase) → slice_get m.table r ≡ Some row → row.phase ≡ p → row_offer s m r ≡ phase_offer s m r row p
unfolding row_offer
row_is s m r row p e q = ap (λ o. option_and_then (λ (x : Row). phase_offer s m r x x.phase) o) e ∙ ap (λ x. phase_offer s m r row x) q

row_idle : (s : Source) (m : Machine) (r : ℕ) (row : Row) (e : Event) → WellFormed m → NoneChosen s m → slice_get m.table r ≡ Some row → row_offer s m r ≡ Some e → refusal m e ≡ None → ⊥
row_idle s m r row e f n there o h =
    let within = slice_get_within m.table r row there in
    let few = f.mostly.table.few in
    not_ready s m (17 + r) e n (offer_row s m r (omega (arith, within, few)) ∙ o) h

issue_by : (s : Source) (m : Machine) (r : ℕ) (row : Row) (p : Phase) → WellFormed m → NoneChosen s m → slice_get m.table r ≡ Some row → row.phase ≡ p → start_refusal m.table r p ≡ None → refusal m (Issue r) ≡ None → ⊥
issue_by s m r row Queued f n there q x h = row_idle s m r row (Issue r) f n there (row_is s m r row Queued there q) h
issue_by s m r row Issued f n there q x h = absurd (cc)
issue_by s m r row (Ended res) f n there q x h = absurd (cc)

no_issue : (s : Source) (m : Machine) (r : ℕ) (o : Option Row) → slice_get m.table r ≡ o → WellFormed m → NoneChosen s m → issue_refusal m.table r o ≡ None → refusal m (Issue r) ≡ None → ⊥
no_issue s m r None there f n x h = absurd (cc)
no_issue s m r (Some row) there f n x h = issue_by s m r row row.phase f n there refl x h

offered_finish : (m : Machine) (r : ℕ) (d : Choice) (b : Bool) → is_none (refusal m (Finish r d)) ≡ b → refusal m (Finish r Full) ≡ None → refusal m (if b then Finish r d else Finish r Full) ≡ None
offered_finish m r d true e h = none_of (refusal m (Finish r d)) e
offered_finish m r d false e h = h

finish_by : (s : Source) (m : Machine) (r : ℕ) (row : Row) (c : Choice) (t : Bool) (p : Phase) (o : Option Refusal) → WellFormed m → NoneChosen s m → slice_get m.table r ≡ Some row → is_timer row.entry.opcode ≡ t → row.phase ≡ p
    → (if t then Some WrongPhase else phase_refusal p o) ≡ None → refusal m (Finish r c) ≡ None → ⊥
finish_by s m r row c true p o f n there t q x h = absurd (cc)
finish_by s m r row c false Queued o f n there t q x h = absurd (cc)
finish_by s m r row c false (Ended res) o f n there t q x h = absurd (cc)
finish_by s m r row c false Issued o f n there t q x h =
    let offers : row_offer s m r ≡ Some (finish_offer s m r) = row_is s m r row Issued there q ∙ ap (λ (b : Bool). if b then Some (Expire r) else Some (finish_offer s m r)) t in
    row_idle s m r row (finish_offer s m r) f n there offers (offered_finish m r (drawn_choice s m r) (is_none (refusal m (Finish r (drawn_choice s m r)))) refl (finishes_in_full m r c h))

no_finish : (s : Source) (m : Machine) (r : ℕ) (c : Choice) (o : Option Row) → slice_get m.table r ≡ o → WellFormed m → NoneChosen s m → finish_refusal (is_held_by m.table) m.world o c ≡ None → refusal m (Finish r c) ≡ None → ⊥
no_finish s m r c None there f n x h = absurd (cc)
no_finish s m r c (Some row) there f n x h = finish_by s m r row c (is_timer row.entry.opcode) row.phase (choice_refusal (is_held_by m.table) m.world row c) f n there refl refl x h

expire_by : (s : Source) (m : Machine) (r : ℕ) (row : Row) (t : Bool) (p : Phase) (o : Option Refusal) → WellFormed m → NoneChosen s m → slice_get m.table r ≡ Some row → is_timer row.entry.opcode ≡ t → row.phase ≡ p
    → (if t then phase_refusal p o else Some WrongPhase) ≡ None → refusal m (Expire r) ≡ None → ⊥
expire_by s m r row false p o f n there t q x h = absurd (cc)
expire_by s m r row true Queued o f n there t q x h = absurd (cc)
expire_by s m r row true (Ended res) o f n there t q x h = absurd (cc)
expire_by s m r row true Issued o f n there t q x h =
    let offers : row_offer s m r ≡ Some (Expire r) = row_is s m r row Issued there q ∙ ap (λ (b : Bool). if b then Some (Expire r) else Some (finish_offer s m r)) t in
    row_idle s m r row (Expire r) f n there offers h

no_expire : (s : Source) (m : Machine) (r : ℕ) (o : Option Row) → slice_get m.table r ≡ o → WellFormed m → NoneChosen s m → expire_refusal m.clock o ≡ None → refusal m (Expire r) ≡ None → ⊥
no_expire s m r None there f n x h = absurd (cc)
no_expire s m r (Some row) there f n x h = expire_by s m r row (is_timer row.entry.opcode) row.phase _ f n there refl refl x h

-- ---- the clock

record AtMost (o : Option ℕ) (t : ℕ) : Type 0 where
  pub value : ℕ
  pub is : o ≡ Some value
  pub least : value ≤ t

smaller_left : (o p : Option ℕ) (t : ℕ) → AtMost o t → AtMost (smaller_of o p) t
smaller_left None p t h = let e = h.is in absurd (cc)
smaller_left (Some a) None t h = h
smaller_left (Some a) (Some b) t h = let same : a ≡ h.value = let e = h.is in cc in let l = h.least in record { value = min a b; is = refl; least = omega (arith, same, l) }

smaller_right : (o p : Option ℕ) (t : ℕ) → AtMost p t → AtMost (smaller_of o p) t
smaller_right None p t h = h
smaller_right (Some a) None t h = let e = h.is in absurd (cc)
smaller_right (Some a) (Some b) t h = let same : b ≡ h.value = let e = h.is in cc in let l = h.least in record { value = min a b; is = refl; least = omega (arith, same, l) }

least_at_most : (f : ℕ → Option ℕ) (n r t : ℕ) → r < n → f r ≡ Some t → AtMost (least_value f n) t
least_at_most f zero r t low e = absurd (omega arith)
least_at_most f (suc n) r t low e = elim (cases_lt r n) [
  | inl before ↦ smaller_left (least_value f n) (f n) t (least_at_most f n r t before e)
  | inr after ↦
      let same : r ≡ n = omega arith in
      smaller_right (least_value f n) (f n) t (record { value = t; is = subst (λ (k : ℕ). f k ≡ Some t) same e; least = omega arith })
]

deadline_within : (m : Machine) (r t : ℕ) (o : Option Row) → slice_get m.table r ≡ o → option_map_or issued_deadline o None ≡ Some t → r < length m.table
deadline_within m r t None there e = absurd (cc)
deadline_within m r t (Some row) there e = slice_get_within m.table r row there

is_ahead : (clock t : ℕ) → clock < t → (if nat_lt clock t then Some t else None) ≡ Some t
is_ahead clock t h = let b : nat_lt clock t ≡ true = grind (arith, nat_tests) in rw b refl

ahead_is : (m : Machine) (r t : ℕ) → m.clock < t → deadline_at m.table r ≡ Some t → ahead_at m r ≡ Some t
ahead_is m r t low e = ap (λ o. if_ahead m.clock o) e ∙ is_ahead m.clock t low

ticks : (clock v : ℕ) → v < 2 ^ 64 → tick_to clock (Some v) ≡ Some (Tick (v - clock))
ticks clock v h = let b : nat_lt v (2 ^ 64) ≡ true = grind (arith, nat_tests) in rw b refl

clock_is : (m : Machine) (o : Option ℕ) (e : Event) → least_ahead m ≡ o → tick_to m.clock o ≡ Some e → clock_offer m ≡ Some e
unfolding clock_offer
clock_is m o e a b = ap (λ p. tick_to m.clock p) a ∙ b

tick_accepted : (clock d : ℕ) → clock + d < 2 ^ 64 → (if nat_lt (clock + d) (2 ^ 64) then None else Some ClockFull) ≡ None
tick_accepted clock d h = let b : nat_lt (clock + d) (2 ^ 64) ≡ true = grind (arith, nat_tests) in rw b refl

accepted_below : (clock d : ℕ) (b : Bool) → nat_lt (clock + d) (2 ^ 64) ≡ b → (if b then None else Some ClockFull) ≡ None → clock + d < 2 ^ 64
accepted_below clock d true e h = grind (arith, nat_tests)
accepted_below clock d false e h = absurd (cc)

no_deadline_left : (s : Source) (m : Machine) (r t : ℕ) → WellFormed m → NoneChosen s m → deadline_at m.table r ≡ Some t → m.clock < t → t < 2 ^ 64 → ⊥
no_deadline_left s m r t f n e low high =
    let within = deadline_within m r t (slice_get m.table r) refl e in
    let least = least_at_most (ahead_at m) (length m.table) r t within (ahead_is m r t low e) in
    let most = least.least in
    let clock = f.mostly.clock in
    let tick = ticks m.clock least.value (omega (arith, most, high)) in
    not_ready s m 65553 (Tick (least.value - m.clock)) n (clock_is m (Some least.value) (Tick (least.value - m.clock)) least.is tick) (tick_accepted m.clock (least.value - m.clock) (omega (arith, most, high, clock)))

no_tick : (s : Source) (m : Machine) (d : ℕ) → WellFormed m → NoneChosen s m → refusal m (Tick d) ≡ None → IsIdle m (Tick d)
no_tick s m d f n h r t e = elim (cases_lt m.clock t) [
  | inr past ↦ inl past
  | inl ahead ↦ elim (cases_lt (m.clock + d) t) [
    | inl far ↦ inr far
    | inr near ↦
        let below = accepted_below m.clock d (nat_lt (m.clock + d) (2 ^ 64)) refl h in
        absurd (no_deadline_left s m r t f n e ahead (omega (arith, near, below)))
  ]
]

-- ---- all events

over_here : (s : Source) (m : Machine) → WellFormed m → length m.threads ≤ 16 → NoneChosen s m → IsOver m
over_here s m f few n (Step t) h = no_step s m t (s.unlocked || not (is_locked m)) refl few n h
over_here s m f few n (Take k) h = idle_by s m k (waiting m.submissions.head m.submissions.tail) m.poller refl refl n h
over_here s m f few n Sleep h = tt
over_here s m f few n (Issue r) h = no_issue s m r (slice_get m.table r) refl f n h h
over_here s m f few n (Finish r c) h = no_finish s m r c (slice_get m.table r) refl f n h h
over_here s m f few n (Expire r) h = no_expire s m r (slice_get m.table r) refl f n h h
over_here s m f few n (Tick d) h = no_tick s m d f n h

-- ---- a whole run

formed_run : (s : Source) (m : Machine) (from : ℕ) (es : List Event) (next : ℕ) → WellFormed m → AllNext s m from es next → WellFormed (run m es)
formed_run s m from [] next f h = f
formed_run s m from (e ∷ es) next f h = formed_run s (after m e) h.0 es next (formed_after m e f (next_accepted s m from e h.0 h.1)) h.2

as_many : (m : Machine) (e : Event) → WellFormed m → refusal m e ≡ None → length (after m e).threads ≡ length m.threads
as_many m e f h = sym (length-map (after m e).threads program_of) ∙ ap (λ ps. length ps) (sym (grows_after m e f h).setup.programs) ∙ length-map m.threads program_of

few_run : (s : Source) (m : Machine) (from : ℕ) (es : List Event) (next : ℕ) → WellFormed m → AllNext s m from es next → length m.threads ≤ 16 → length (run m es).threads ≤ 16
few_run s m from [] next f h few = few
few_run s m from (e ∷ es) next f h few =
    let accepted = next_accepted s m from e h.0 h.1 in
    let same = as_many m e f accepted in
    few_run s (after m e) h.0 es next (formed_after m e f accepted) h.2 (omega (arith, same, few))

few_start : (s : Setup) → setup_refusal s ≡ None → length (map thread_start s.threads) ≤ 16
few_start s h = let few = few_threads s h in let same = length-map s.threads thread_start in omega (arith, few, same)

pub ends_over : (setup : Setup) (options : SampleOptions) (seed number : ℕ) (es : List Event) → setup_refusal setup ≡ None → WellFormed (start setup) → IsSample setup options seed number es → length es < options.most → IsOver (run (start setup) es)
ends_over setup options seed number es valid f h less =
    let s = source_of options seed number in
    over_here s (run (start setup) es) (formed_run s (start setup) 0 es h.next f h.all) (few_run s (start setup) 0 es h.next f h.all (few_start setup valid)) (h.ends less).none
