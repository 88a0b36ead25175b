-- Proofs of the laws of offers.
use Rattle.std.proofs.Common.{◌≡◌, ℕ, zero, suc, ◌+◌, ◌-◌, ◌^◌, ◌<◌, ◌≤◌, ◌⊎◌, Bool, true, false, not, refl, sym, ap, ◌∙◌, inl, inr, arith, if◌then◌else◌, length, List, ◌==◌}
use Rattle.std.specs.Prelude.{◌&&◌, Option, Some, None, is_none, slice_get, min, nat_lt, nat_le}
use Rattle.std.specs.Option.{option_map_or}
use Rattle.std.proofs.lemmas.Bool.{and_from, cases_lt, eq-eqb}
use Rattle.std.proofs.lemmas.Bool.Decides.{nat_tests}
use Rattle.std.proofs.lemmas.Option.{slice_get_within}
use Rattle.entries.specs.declared.row.Row.{Row}
use Rattle.entries.specs.declared.row.Phase.{Phase}
use Rattle.entries.specs.declared.row.Phase.TheVariants.{Queued, Issued, Ended}
use Rattle.entries.specs.declared.choice.Choice.TheVariants.{Full}
use Rattle.opcodes.specs.Opcodes.{is_timer}
use Rattle.scenario.specs.declared.event.Event.{Event}
use Rattle.scenario.specs.declared.event.Event.TheVariants.{Step, Take, Sleep, Issue, Finish, Expire, Tick}
use Rattle.scenario.specs.declared.event.Refusal.{Refusal}
use Rattle.scenario.specs.declared.event.Refusal.TheVariants.{NotEligible, NotDue, ClockFull, NotIdle}
use Rattle.scenario.specs.declared.setup.Setup.{Setup}
use Rattle.links_drains.specs.Eligible.{is_eligible}
use Rattle.links_drains.specs.Holding.{is_held_by}
use Rattle.links_drains.specs.Phases.{is_issued}
use Rattle.model_files.specs.Worlds.{WorldState}
use Rattle.timeouts_cancel.specs.Timers.{is_due}
use Rattle.machine.specs.declared.whole.Machine.{Machine}
use Rattle.machine.specs.Deadlines.{deadline_at, issued_deadline}
use Rattle.machine.specs.Steps.{refusal, issue_refusal, finish_refusal, expire_refusal}
use Rattle.machine.specs.Whole.{WellFormed}
use Rattle.live_rules.specs.declared.offering.Action.{Action}
use Rattle.live_rules.specs.declared.offering.Action.TheVariants.{Issuing, Finishing, Expiring}
use Rattle.live_rules.specs.Actors.{is_own, is_submitter, is_poller, is_worker}
use Rattle.live_rules.specs.Least.{least, or_else, least_value, smaller_of}
use Rattle.live_rules.specs.Offers.{least_row, least_deadline, may_do, event_on, on_row, offer, submits, polls, polls_by, works, ticks, ticks_to, is_over, is_of_worker}
use Rattle.live_rules.specs.Passing.{IsLeastDeadline}
use Rattle.live_rules.proofs.Rows.{unfinished}

-- ---- The first request

none_by : (f : ℕ → Bool) (n : ℕ) (o : Option ℕ) (b : Bool) → f n ≡ b → or_else o (if b then Some n else None) ≡ None → (o ≡ None → (k : ℕ) → k < n → f k ≡ false) → (k : ℕ) → k < suc n → f k ≡ false
none_by f n (Some x) b g h rest k l = absurd (cc)
none_by f n None true g h rest k l = absurd (cc)
none_by f n None false g h rest k l = elim (cases_lt k n) [
  | inl less ↦ rest refl k less
  | inr last ↦ let e : k ≡ n = omega arith in ap f e ∙ g
]

none_below : (f : ℕ → Bool) (n : ℕ) → least f n ≡ None → (k : ℕ) → k < n → f k ≡ false
none_below f zero h k l = absurd (omega arith)
none_below f (suc n) h k l = none_by f n (least f n) (f n) refl h (none_below f n) k l

found_by : (f : ℕ → Bool) (n r : ℕ) (o : Option ℕ) (b : Bool) → f n ≡ b → or_else o (if b then Some n else None) ≡ Some r
    → (o ≡ Some r → (f r ≡ true) × ((k : ℕ) → k < r → f k ≡ false)) → (o ≡ None → (k : ℕ) → k < n → f k ≡ false) → (f r ≡ true) × ((k : ℕ) → k < r → f k ≡ false)
found_by f n r (Some x) b g h found none = found h
found_by f n r None true g h found none = let e : n ≡ r = cc in (ap f (sym e) ∙ g, λ k l. none refl k (omega arith))
found_by f n r None false g h found none = absurd (cc)

least_found : (f : ℕ → Bool) (n r : ℕ) → least f n ≡ Some r → (f r ≡ true) × ((k : ℕ) → k < r → f k ≡ false)
least_found f zero r h = absurd (cc)
least_found f (suc n) r h = found_by f n r (least f n) (f n) refl h (least_found f n r) (none_below f n)

pub least_offered : (m : Machine) (action : Action) (r : ℕ) → least_row m action ≡ Some r → (may_do m action r ≡ true) × ((k : ℕ) → k < r → may_do m action k ≡ false)
least_offered m action r h = least_found (may_do m action) (length m.table) r h

-- ---- Which requests each action applies to

none_if : (b : Bool) (n : Refusal) → is_none (if b then None else Some n) ≡ b
none_if true n = refl
none_if false n = refl

eligible_phase : (rows : List Row) (r : ℕ) (row : Row) (p : Phase) → row.phase ≡ p → slice_get rows r ≡ Some row → is_none (issue_refusal rows r (Some row)) ≡ is_eligible rows r
eligible_phase rows r row Queued g e = rw g (none_if (is_eligible rows r) NotEligible)
eligible_phase rows r row Issued g e = rw (e, g) refl
eligible_phase rows r row (Ended res) g e = rw (e, g) refl

eligible_by : (rows : List Row) (r : ℕ) (o : Option Row) → slice_get rows r ≡ o → is_none (issue_refusal rows r o) ≡ is_eligible rows r
eligible_by rows r None e = rw e refl
eligible_by rows r (Some row) e = eligible_phase rows r row row.phase refl e

pub issued_eligible : (m : Machine) (r : ℕ) → may_do m Issuing r ≡ is_eligible m.table r
issued_eligible m r = eligible_by m.table r (slice_get m.table r) refl

finished_by : (held : ℕ → Bool) (w : WorldState) (row : Row) (b d : Bool) → is_issued row.phase ≡ b → is_timer row.entry.opcode ≡ d → is_none (finish_refusal held w (Some row) Full) ≡ true
    → (is_issued row.phase && not (is_timer row.entry.opcode)) ≡ true
finished_by held w row true false i c h = and_from _ _ i (ap (λ (b : Bool). not b) c)
finished_by held w row true true i c h = absurd (let k : is_none (finish_refusal held w (Some row) Full) ≡ false = rw c refl in cc)
finished_by held w row false d i c h = absurd (let k = unfinished held w row d c i in cc)

finished_there : (held : ℕ → Bool) (w : WorldState) (o : Option Row) → is_none (finish_refusal held w o Full) ≡ true → option_map_or (λ (row : Row). is_issued row.phase && not (is_timer row.entry.opcode)) o false ≡ true
finished_there held w None h = h
finished_there held w (Some row) h = finished_by held w row (is_issued row.phase) (is_timer row.entry.opcode) refl refl h

pub finished_issued : (m : Machine) (r : ℕ) → may_do m Finishing r ≡ true → option_map_or (λ (row : Row). is_issued row.phase && not (is_timer row.entry.opcode)) (slice_get m.table r) false ≡ true
finished_issued m r h = finished_there (is_held_by m.table) m.world (slice_get m.table r) h

expires : (now : ℕ) (row : Row) (b : Bool) → is_timer row.entry.opcode ≡ b → (p : Phase) → row.phase ≡ p → is_none (expire_refusal now (Some row)) ≡ (is_timer row.entry.opcode && (is_issued row.phase && is_due now row))
expires now row false e p g = rw e refl
expires now row true e Queued g = rw (e, g) refl
expires now row true e Issued g = rw (e, g) (none_if (is_due now row) NotDue)
expires now row true e (Ended res) g = rw (e, g) refl

expires_there : (now : ℕ) (o : Option Row) → is_none (expire_refusal now o) ≡ option_map_or (λ (row : Row). is_timer row.entry.opcode && (is_issued row.phase && is_due now row)) o false
expires_there now None = refl
expires_there now (Some row) = expires now row (is_timer row.entry.opcode) refl row.phase refl

pub expired_due : (m : Machine) (r : ℕ) → may_do m Expiring r ≡ option_map_or (λ (row : Row). is_timer row.entry.opcode && (is_issued row.phase && is_due m.clock row)) (slice_get m.table r) false
expired_due m r = expires_there m.clock (slice_get m.table r)

-- ---- The least deadline

-- The function has the value d somewhere, and no smaller value below n.
record HasLeast (f : ℕ → Option ℕ) (n d : ℕ) : Type 0 where
  pub at : ℕ
  pub is : f at ≡ Some d
  pub least : (k e : ℕ) → k < n → f k ≡ Some e → d ≤ e

nothing_by : (f : ℕ → Option ℕ) (n : ℕ) (o p : Option ℕ) → f n ≡ p → smaller_of o p ≡ None → (o ≡ None → (k : ℕ) → k < n → f k ≡ None) → (k : ℕ) → k < suc n → f k ≡ None
nothing_by f n None None g h rest k l = elim (cases_lt k n) [
  | inl less ↦ rest refl k less
  | inr last ↦ let e : k ≡ n = omega arith in ap f e ∙ g
]
nothing_by f n None (Some b) g h rest k l = absurd (cc)
nothing_by f n (Some a) None g h rest k l = absurd (cc)
nothing_by f n (Some a) (Some b) g h rest k l = absurd (cc)

nothing_below : (f : ℕ → Option ℕ) (n : ℕ) → least_value f n ≡ None → (k : ℕ) → k < n → f k ≡ None
nothing_below f zero h k l = absurd (omega arith)
nothing_below f (suc n) h k l = nothing_by f n (least_value f n) (f n) refl h (nothing_below f n) k l

-- A lower bound of the values below n and at n is one of the values below n + 1.
at_each : (f : ℕ → Option ℕ) (n d : ℕ) → ((k e : ℕ) → k < n → f k ≡ Some e → d ≤ e) → ((e : ℕ) → f n ≡ Some e → d ≤ e) → (k e : ℕ) → k < suc n → f k ≡ Some e → d ≤ e
at_each f n d below here k e l h = elim (cases_lt k n) [
  | inl less ↦ below k e less h
  | inr last ↦ let same : n ≡ k = omega arith in here e (ap f same ∙ h)
]

least_by : (f : ℕ → Option ℕ) (n d : ℕ) (o p : Option ℕ) → f n ≡ p → smaller_of o p ≡ Some d → ((a : ℕ) → o ≡ Some a → HasLeast f n a) → (o ≡ None → (k : ℕ) → k < n → f k ≡ None) → HasLeast f (suc n) d
least_by f n d None None g h found none = absurd (cc)
least_by f n d None (Some b) g h found none =
    let same : b ≡ d = cc in
    record {
      at = n;
      is = g ∙ ap Some same;
      least = at_each f n d (λ k e l i. absurd (let z = none refl k l in cc)) (λ e i. let j : b ≡ e = cc in omega arith);
    }
least_by f n d (Some a) None g h found none =
    let same : a ≡ d = cc in
    let was = found a refl in
    record { at = was.at; is = was.is ∙ ap Some same; least = at_each f n d (λ k e l i. let z = was.least k e l i in omega (arith, z)) (λ e i. absurd (cc)) }
least_by f n d (Some a) (Some b) g h found none =
    let same : min a b ≡ d = cc in
    let was = found a refl in
    let each = at_each f n d (λ k e l i. let z = was.least k e l i in omega (arith, z)) (λ e i. let j : b ≡ e = cc in omega arith) in
    elim (cases_lt b a) [
      | inl lower ↦ let j : b ≡ d = omega arith in record { at = n; is = g ∙ ap Some j; least = each }
      | inr other ↦ let j : a ≡ d = omega arith in record { at = was.at; is = was.is ∙ ap Some j; least = each }
    ]

value_least : (f : ℕ → Option ℕ) (n d : ℕ) → least_value f n ≡ Some d → HasLeast f n d
value_least f zero d h = absurd (cc)
value_least f (suc n) d h = least_by f n d (least_value f n) (f n) refl h (value_least f n) (nothing_below f n)

there : (rows : List Row) (k e : ℕ) (o : Option Row) → slice_get rows k ≡ o → option_map_or issued_deadline o None ≡ Some e → k < length rows
there rows k e None g h = absurd (cc)
there rows k e (Some row) g h = slice_get_within rows k row g

pub deadline_least : (m : Machine) (d : ℕ) → least_deadline m ≡ Some d → IsLeastDeadline m.table d
deadline_least m d h =
    let found = value_least (deadline_at m.table) (length m.table) d h in
    record { row = found.at; due = found.is; least = λ k e i. found.least k e (there m.table k e (slice_get m.table k) refl i) i }

-- ---- An offered event is accepted

is_none_true : (o : Option Refusal) → is_none o ≡ true → o ≡ None
is_none_true None h = refl
is_none_true (Some n) h = absurd (cc)

row_accepted : (m : Machine) (action : Action) (e : Event) (o : Option ℕ) → least_row m action ≡ o → on_row action o ≡ Some e → refusal m e ≡ None
row_accepted m action e None g h = absurd (cc)
row_accepted m action e (Some r) g h =
    let same : event_on action r ≡ e = cc in
    ap (λ (x : Event). refusal m x) (sym same) ∙ is_none_true (refusal m (event_on action r)) (least_offered m action r g).0

reached : (clock d : ℕ) → clock < 2 ^ 64 → nat_lt d (2 ^ 64) ≡ true → nat_lt (clock + (d - clock)) (2 ^ 64) ≡ true
reached clock d c h = grind (arith, nat_tests)

tick_accepted : (m : Machine) (e : Event) (d : ℕ) (b : Bool) → m.clock < 2 ^ 64 → nat_lt d (2 ^ 64) ≡ b → (if b then Some (Tick (d - m.clock)) else None) ≡ Some e → refusal m e ≡ None
tick_accepted m e d true c g h =
    let same : Tick (d - m.clock) ≡ e = cc in
    ap (λ (x : Event). refusal m x) (sym same) ∙ ap (λ (b : Bool). if b then None else Some ClockFull) (reached m.clock d c g)
tick_accepted m e d false c g h = absurd (cc)

ticks_accepted : (m : Machine) (e : Event) (o : Option ℕ) → m.clock < 2 ^ 64 → ticks_to m.clock o ≡ Some e → refusal m e ≡ None
ticks_accepted m e None c h = absurd (cc)
ticks_accepted m e (Some d) c h = tick_accepted m e d (nat_lt d (2 ^ 64)) c refl h

one_of : (o p : Option Event) (e : Event) → or_else o p ≡ Some e → (o ≡ Some e) ⊎ (p ≡ Some e)
one_of None p e h = inr h
one_of (Some x) p e h = inl h

works_accepted : (m : Machine) (e : Event) → m.clock < 2 ^ 64 → works m ≡ Some e → refusal m e ≡ None
works_accepted m e c h = elim (one_of (on_row Issuing (least_row m Issuing)) (or_else (on_row Finishing (least_row m Finishing)) (or_else (on_row Expiring (least_row m Expiring)) (ticks m))) e h) [
  | inl a ↦ row_accepted m Issuing e (least_row m Issuing) refl a
  | inr b ↦ elim (one_of (on_row Finishing (least_row m Finishing)) (or_else (on_row Expiring (least_row m Expiring)) (ticks m)) e b) [
    | inl a ↦ row_accepted m Finishing e (least_row m Finishing) refl a
    | inr b ↦ elim (one_of (on_row Expiring (least_row m Expiring)) (ticks m) e b) [
      | inl a ↦ row_accepted m Expiring e (least_row m Expiring) refl a
      | inr b ↦ ticks_accepted m e (least_deadline m) c b
    ]
  ]
]

-- ---- An offered event is one that the actor may make

submits_is : (t : ℕ) (e : Event) (b : Bool) → (if b then None else Some (Step t)) ≡ Some e → e ≡ Step t
submits_is t e true h = absurd (cc)
submits_is t e false h = cc

not_of_submitter : (m : Machine) (t : ℕ) (e : Event) → submits m t ≡ Some e → is_of_worker e ≡ false
not_of_submitter m t e h = ap (λ (x : Event). is_of_worker x) (submits_is t e (is_over (refusal m (Step t))) h)

-- What holds of both events of the poller holds of the event that it is offered.
polls_own : (f : Event → Bool) (b : Bool) (o : Option Refusal) (e : Event) → f Sleep ≡ b → f (Take 1) ≡ b → polls_by o ≡ Some e → f e ≡ b
polls_own f b None e s t h = let same : Sleep ≡ e = cc in ap f (sym same) ∙ s
polls_own f b (Some NotIdle) e s t h = let same : Take 1 ≡ e = cc in ap f (sym same) ∙ t
polls_own f b (Some n) e s t h = absurd (cc)

accepted_by : (m : Machine) (actor : ℕ) (e : Event) (b c d : Bool) → m.clock < 2 ^ 64 → is_of_worker e ≡ true
    → (if b then (if c then submits m actor else if d then polls m else works m) else None) ≡ Some e → refusal m e ≡ None
accepted_by m actor e false c d clock w h = absurd (cc)
accepted_by m actor e true true d clock w h = absurd (let k = not_of_submitter m actor e h in cc)
accepted_by m actor e true false true clock w h = absurd (let k = polls_own is_of_worker false (refusal m Sleep) e refl refl h in cc)
accepted_by m actor e true false false clock w h = works_accepted m e clock h

pub offer_accepted : (setup : Setup) (count : ℕ) (m : Machine) (actor : ℕ) (e : Event) → WellFormed m → offer setup count m actor ≡ Some e → is_of_worker e ≡ true → refusal m e ≡ None
offer_accepted setup count m actor e formed h w = accepted_by m actor e (nat_lt actor count) (is_submitter setup actor) (is_poller setup actor) formed.mostly.clock w h

-- An actor whose number is after those of the submitters and the poller is a kernel worker.
is_past : (n actor : ℕ) (b : Bool) → nat_lt actor n ≡ false → (b && (actor == n)) ≡ false → nat_le (n + (if b then 1 else 0)) actor ≡ true
is_past n actor true h k = grind (arith, nat_tests)
is_past n actor false h k = grind (arith, nat_tests)

action_own : (setup : Setup) (count actor : ℕ) (e : Event) (action : Action) (o : Option ℕ) → on_row action o ≡ Some e → is_own setup count actor e ≡ (nat_lt actor count && is_worker setup actor)
action_own setup count actor e action None h = absurd (cc)
action_own setup count actor e Issuing (Some r) h = let same : Issue r ≡ e = cc in ap (λ (x : Event). is_own setup count actor x) (sym same)
action_own setup count actor e Finishing (Some r) h = let same : Finish r Full ≡ e = cc in ap (λ (x : Event). is_own setup count actor x) (sym same)
action_own setup count actor e Expiring (Some r) h = let same : Expire r ≡ e = cc in ap (λ (x : Event). is_own setup count actor x) (sym same)

tick_own : (setup : Setup) (count actor x : ℕ) (e : Event) (b : Bool) → (if b then Some (Tick x) else None) ≡ Some e → is_own setup count actor e ≡ (nat_lt actor count && is_worker setup actor)
tick_own setup count actor x e true h = let same : Tick x ≡ e = cc in ap (λ (y : Event). is_own setup count actor y) (sym same)
tick_own setup count actor x e false h = absurd (cc)

ticks_own : (setup : Setup) (count actor clock : ℕ) (e : Event) (o : Option ℕ) → ticks_to clock o ≡ Some e → is_own setup count actor e ≡ (nat_lt actor count && is_worker setup actor)
ticks_own setup count actor clock e None h = absurd (cc)
ticks_own setup count actor clock e (Some d) h = tick_own setup count actor (d - clock) e (nat_lt d (2 ^ 64)) h

works_own : (setup : Setup) (count actor : ℕ) (m : Machine) (e : Event) → works m ≡ Some e → is_own setup count actor e ≡ (nat_lt actor count && is_worker setup actor)
works_own setup count actor m e h = elim (one_of (on_row Issuing (least_row m Issuing)) (or_else (on_row Finishing (least_row m Finishing)) (or_else (on_row Expiring (least_row m Expiring)) (ticks m))) e h) [
  | inl a ↦ action_own setup count actor e Issuing (least_row m Issuing) a
  | inr b ↦ elim (one_of (on_row Finishing (least_row m Finishing)) (or_else (on_row Expiring (least_row m Expiring)) (ticks m)) e b) [
    | inl a ↦ action_own setup count actor e Finishing (least_row m Finishing) a
    | inr b ↦ elim (one_of (on_row Expiring (least_row m Expiring)) (ticks m) e b) [
      | inl a ↦ action_own setup count actor e Expiring (least_row m Expiring) a
      | inr b ↦ ticks_own setup count actor m.clock e (least_deadline m) b
    ]
  ]
]

own_by : (setup : Setup) (count : ℕ) (m : Machine) (actor : ℕ) (e : Event) (b c d : Bool) → nat_lt actor count ≡ b → is_submitter setup actor ≡ c → is_poller setup actor ≡ d
    → (if b then (if c then submits m actor else if d then polls m else works m) else None) ≡ Some e → is_own setup count actor e ≡ true
own_by setup count m actor e false c d x y z h = absurd (cc)
own_by setup count m actor e true true d x y z h =
    ap (λ (v : Event). is_own setup count actor v) (submits_is actor e (is_over (refusal m (Step actor))) h) ∙ and_from _ _ x (and_from _ _ y (eq-eqb actor actor refl))
own_by setup count m actor e true false true x y z h = polls_own (is_own setup count actor) true (refusal m Sleep) e (and_from _ _ x z) (and_from _ _ x z) h
own_by setup count m actor e true false false x y z h = works_own setup count actor m e h ∙ and_from _ _ x (is_past (length setup.threads) actor setup.sqpoll y z)

pub offer_own : (setup : Setup) (count : ℕ) (m : Machine) (actor : ℕ) (e : Event) → offer setup count m actor ≡ Some e → is_own setup count actor e ≡ true
offer_own setup count m actor e h = own_by setup count m actor e (nat_lt actor count) (is_submitter setup actor) (is_poller setup actor) refl refl refl h
