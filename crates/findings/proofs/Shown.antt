-- The findings computed from the record of an event are those of the event.
use Rattle.findings.proofs.Common.{◌≡◌, ℕ, zero, Bool, true, false, cond, List, [], ◌∷◌, ◌++◌, refl, Option, Some, None, option_map, slice_get, ℤ, ◌==◌, ◌&&◌, not, option_map_or, All, flat_map, Phase, Row, Place, Request, Value, Requested, Change, Exact, NamesOnce, is_ended, Event, Step, Instruction, Setup, Machine, view, Finding, Kind, EndedKind, StepKind, QueuedKind, CancelKind, ended_kinds, step_kinds, queued_kinds, cancel_kinds, sym, ap, ◌∙◌, subst, All-nil, All-append, and_parts, and_from, eqb-true, eq-eqb, clash, Circumstances, ending_of, result_in, next_in, is_of, ended_test, queued_test, circumstances, overflows, done_by, is_step_of, is_of_step, changes_slot, changes_at, cancel_before, is_of_cancel, cancel_shows, ends, comes, spills, step_shows, occurs, of_ended, of_queued, of_row, row_in, of_place, of_change, of_overflow, of_instruction, of_step, of_cancel, of_event}
use Rattle.entries.specs.declared.row.Phase.TheVariants.{Ended}
use Rattle.finding_rules.specs.declared.canceling.Cancel.{Cancel}
use Rattle.findings.proofs.{Groups.given_only, Groups.given_there, Groups.group_only, Groups.group_there, Groups.is_cancel_kind, Groups.is_ended_kind, Groups.is_queued_kind, Groups.is_step_kind, Groups.the_finding, Notes.AreTrue, Notes.change_there, Notes.is_named, Notes.true_notes}
use Rattle.finding_rules.proofs.Members.{Has, has_flat_map, has_left, has_right}
use Rattle.finding_kinds.specs.declared.kind.Kind.TheVariants as group

-- A finding of event i, which leads from one machine to another.
abbrev pub IsShown : Setup → ℕ → Machine → Event → Machine → Finding → Type 0
IsShown s i before e next_state f = (f.moment ≡ i) × (occurs s f.kind before e next_state f.subject ≡ true)

pub row_in_requested : (o : Option Row) → row_in (option_map Requested o) ≡ o
row_in_requested None = refl
row_in_requested (Some row) = refl

-- ---- nothing else

module _ (s : Setup) (i : ℕ) (before : Machine) (e : Event) (next_state : Machine) where
  row_shown : (r : ℕ) (old : Option Row) (row : Row) → slice_get before.table r ≡ old → slice_get next_state.table r ≡ Some row → All (IsShown s i before e next_state) (of_row i (circumstances s before e next_state r row) old next_state.table r row)
  row_shown r old row o k =
      All-append (IsShown s i before e next_state) (of_ended i (circumstances s before e next_state r row) old next_state.table r row) (of_queued i old next_state.table r row)
      (group_only (IsShown s i before e next_state) group.Ended (λ (kind : EndedKind). ended_test kind (circumstances s before e next_state r row) old next_state.table r row) i r ended_kinds
      (λ kind t. (refl, at_row (λ (o : Option Row) (rows : List Row) (n : ℕ) (x : Row). ended_test kind (circumstances s before e next_state n x) o rows n x) t)))
      (group_only (IsShown s i before e next_state) group.Queued (λ (kind : QueuedKind). queued_test kind old next_state.table r row) i r queued_kinds (λ kind t. (refl, at_row (queued_test kind) t)))
    where
      at_row : (test : Option Row → List Row → ℕ → Row → Bool) → test old next_state.table r row ≡ true → option_map_or (test (slice_get before.table r) next_state.table r) (slice_get next_state.table r) false ≡ true
      at_row test t = ap (λ (x : Option Row). option_map_or (test (slice_get before.table r) next_state.table r) x false) k ∙ ap (λ (x : Option Row). test x next_state.table r row) o ∙ t

  place_shown : (x : Option Value) (p : Place) → x ≡ view before p → All (IsShown s i before e next_state) (of_place i (circumstances s before e next_state) next_state.table x p)
  place_shown x (Request r) h = by (slice_get next_state.table r) refl
    where
      old : slice_get before.table r ≡ row_in x
      old = sym (ap row_in h ∙ row_in_requested (slice_get before.table r))

      by : (o : Option Row) → slice_get next_state.table r ≡ o → All (IsShown s i before e next_state) (option_map_or (λ (row : Row). of_row i (circumstances s before e next_state r row) (row_in x) next_state.table r row) o [])
      by None k = All-nil (IsShown s i before e next_state)
      by (Some row) k = row_shown r (row_in x) row old k
  place_shown x _ h = All-nil (IsShown s i before e next_state)

  changes_shown : (cs : List Change) → AreTrue (view before) cs → All (IsShown s i before e next_state) (flat_map (of_change i (circumstances s before e next_state) next_state.table) cs)
  changes_shown [] h = All-nil (IsShown s i before e next_state)
  changes_shown (c ∷ cs) h =
      All-append (IsShown s i before e next_state) (of_change i (circumstances s before e next_state) next_state.table c) (flat_map (of_change i (circumstances s before e next_state) next_state.table) cs) (place_shown c.old c.place h.0) (changes_shown cs h.1)

  -- Each finding computed from the record is one of the event.
  pub record_shown : (cs : List Change) → Exact (view before) (view next_state) cs → NamesOnce cs → All (IsShown s i before e next_state) (flat_map (of_change i (circumstances s before e next_state) next_state.table) cs)
  record_shown cs x o = changes_shown cs (true_notes (view before) (view next_state) cs x o)

-- ---- nothing left out

-- A request that doesn't change is not completed.
pub not_completed : (row : Row) (f : ℤ → Bool) → option_map_or f (ending_of (Some row) row) false ≡ false
not_completed row f = by row.phase
  where
    by : (p : Phase) → option_map_or f (cond (is_ended p) None (result_in p)) false ≡ false
    by (Ended res) = refl
    by p = refl

-- It has no finding.
ended_unchanged : (kind : EndedKind) (c : Circumstances) (rows : List Row) (r : ℕ) (row : Row) → ended_test kind c (Some row) rows r row ≡ false
ended_unchanged kind c rows r row = not_completed row (is_of kind c (Some row) row (next_in rows r))

-- Only a request that changes passes the test.
abbrev pub NeedsChange : (Option Row → Row → Bool) → Type 0
NeedsChange test = (row : Row) → test (Some row) row ≡ false

-- A request that passes is named by the record, with its old value.
pub passes_named : (before next_state : Machine) (cs : List Change) (r : ℕ) (row : Row) (test : Option Row → Row → Bool) → NeedsChange test → Exact (view before) (view next_state) cs → slice_get next_state.table r ≡ Some row → test (slice_get before.table r) row ≡ true
    → Has cs (record { place = Request r; old = view before (Request r) })
passes_named before next_state cs r row test needs x k t = change_there cs (Request r) (view before (Request r)) (is_named (view before) (view next_state) cs (Request r) x differs)
  where
    differs : view before (Request r) ≡ view next_state (Request r) → ⊥
    differs e =
        let same : slice_get before.table r ≡ Some row = sym (row_in_requested (slice_get before.table r)) ∙ ap row_in e ∙ row_in_requested (slice_get next_state.table r) ∙ k in
        clash (sym (needs row) ∙ ap (λ (o : Option Row). test o row) (sym same) ∙ t)

-- A finding about a request, by a test that only a request that changes passes, is computed from the
-- record.
place_there : (s : Setup) (i : ℕ) (before : Machine) (e : Event) (next_state : Machine) (cs : List Change) (kind : Kind) (r : ℕ) (test : Option Row → Row → Bool) → NeedsChange test
    → ((old : Option Row) (row : Row) → test old row ≡ true → Has (of_row i (circumstances s before e next_state r row) old next_state.table r row) (the_finding i kind r)) → Exact (view before) (view next_state) cs
    → option_map_or (test (slice_get before.table r)) (slice_get next_state.table r) false ≡ true → Has (flat_map (of_change i (circumstances s before e next_state) next_state.table) cs) (the_finding i kind r)
place_there s i before e next_state cs kind r test needs row_has x h = by (slice_get next_state.table r) refl h
  where
    with_row : (row : Row) → slice_get next_state.table r ≡ Some row → test (slice_get before.table r) row ≡ true → Has (flat_map (of_change i (circumstances s before e next_state) next_state.table) cs) (the_finding i kind r)
    with_row row k t =
        let named = passes_named before next_state cs r row test needs x k t in
        let old : row_in (view before (Request r)) ≡ slice_get before.table r = row_in_requested (slice_get before.table r) in
        let reported : Has (of_row i (circumstances s before e next_state r row) (row_in (view before (Request r))) next_state.table r row) (the_finding i kind r) =
        row_has (row_in (view before (Request r))) row (ap (λ (o : Option Row). test o row) old ∙ t)
        in
        let placed : Has (of_place i (circumstances s before e next_state) next_state.table (view before (Request r)) (Request r)) (the_finding i kind r) =
        subst (λ (o : Option Row). Has (option_map_or (λ (x : Row). of_row i (circumstances s before e next_state r x) (row_in (view before (Request r))) next_state.table r x) o []) (the_finding i kind r)) (sym k) reported
        in
        has_flat_map (of_change i (circumstances s before e next_state) next_state.table) cs (record { place = Request r; old = view before (Request r) }) (the_finding i kind r) named placed

    by : (o : Option Row) → slice_get next_state.table r ≡ o → option_map_or (test (slice_get before.table r)) o false ≡ true → Has (flat_map (of_change i (circumstances s before e next_state) next_state.table) cs) (the_finding i kind r)
    by None k t = absurd (clash t)
    by (Some row) k t = with_row row k t

-- Each finding of the event about a request is computed from the record.
pub ended_there : (s : Setup) (i : ℕ) (before : Machine) (e : Event) (next_state : Machine) (cs : List Change) (kind : EndedKind) (r : ℕ) → Exact (view before) (view next_state) cs → ends s kind before e next_state r ≡ true
    → Has (flat_map (of_change i (circumstances s before e next_state) next_state.table) cs) (the_finding i (group.Ended kind) r)
ended_there s i before e next_state cs kind r x h =
    place_there s i before e next_state cs (group.Ended kind) r (λ (old : Option Row) (row : Row). ended_test kind (circumstances s before e next_state r row) old next_state.table r row)
    (λ row. ended_unchanged kind (circumstances s before e next_state r row) next_state.table r row)
    (λ old row t. has_left (of_ended i (circumstances s before e next_state r row) old next_state.table r row) (of_queued i old next_state.table r row) (the_finding i (group.Ended kind) r)
    (group_there group.Ended (λ (k : EndedKind). ended_test k (circumstances s before e next_state r row) old next_state.table r row) i r ended_kinds kind (is_ended_kind kind) t)) x h

pub queued_there : (s : Setup) (i : ℕ) (before : Machine) (e : Event) (next_state : Machine) (cs : List Change) (kind : QueuedKind) (r : ℕ) → Exact (view before) (view next_state) cs → comes kind before next_state r ≡ true
    → Has (flat_map (of_change i (circumstances s before e next_state) next_state.table) cs) (the_finding i (group.Queued kind) r)
queued_there s i before e next_state cs kind r x h =
    place_there s i before e next_state cs (group.Queued kind) r (λ (old : Option Row) (row : Row). queued_test kind old next_state.table r row) (λ row. refl)
    (λ old row t. has_right (of_ended i (circumstances s before e next_state r row) old next_state.table r row) (of_queued i old next_state.table r row) (the_finding i (group.Queued kind) r)
    (group_there group.Queued (λ (k : QueuedKind). queued_test k old next_state.table r row) i r queued_kinds kind (is_queued_kind kind) t)) x h

-- ---- rings and threads

instruction_shown : (s : Setup) (i : ℕ) (before : Machine) (t : ℕ) (next_state : Machine) (x : Instruction) → done_by s before (Step t) ≡ Some x
    → All (IsShown s i before (Step t) next_state) (of_instruction i (changes_slot before x) x next_state t)
instruction_shown s i before t next_state x d =
    group_only (IsShown s i before (Step t) next_state) group.Step (λ (kind : StepKind). is_of_step kind (changes_slot before x) x next_state t) i t step_kinds (λ kind h. (refl, reported kind h))
  where
    reported : (kind : StepKind) → is_of_step kind (changes_slot before x) x next_state t ≡ true → step_shows s kind before (Step t) next_state t ≡ true
    reported kind h =
        and_from (t == t) (option_map_or (λ (y : Instruction). is_of_step kind (changes_slot before y) y next_state t) (done_by s before (Step t)) false) (eq-eqb t t refl)
        (ap (λ (o : Option Instruction). option_map_or (λ (y : Instruction). is_of_step kind (changes_slot before y) y next_state t) o false) d ∙ h)

step_shown : (s : Setup) (i : ℕ) (before : Machine) (e : Event) (next_state : Machine) (o : Option Instruction) → done_by s before e ≡ o → All (IsShown s i before e next_state) (of_step i (changes_at before o) o e next_state)
step_shown s i before e next_state None d = All-nil (IsShown s i before e next_state)
step_shown s i before (Step t) next_state (Some x) d = instruction_shown s i before t next_state x d
step_shown s i before _ next_state (Some x) d = All-nil _

cancel_shown : (s : Setup) (i : ℕ) (before : Machine) (e : Event) (next_state : Machine) (o : Option Cancel) → cancel_before before e ≡ o → All (IsShown s i before e next_state) (of_cancel i o next_state.table)
cancel_shown s i before e next_state None d = All-nil (IsShown s i before e next_state)
cancel_shown s i before e next_state (Some x) d =
    group_only (IsShown s i before e next_state) group.Cancel (λ (kind : CancelKind). is_of_cancel kind x next_state.table) i x.number cancel_kinds (λ kind h. (refl, reported kind h))
  where
    reported : (kind : CancelKind) → is_of_cancel kind x next_state.table ≡ true → cancel_shows kind before e next_state x.number ≡ true
    reported kind h =
        ap (λ (o : Option Cancel). option_map_or (λ (y : Cancel). (y.number == x.number) && is_of_cancel kind y next_state.table) o false) d
        ∙ and_from (x.number == x.number) (is_of_cancel kind x next_state.table) (eq-eqb x.number x.number refl) h

-- Each finding computed about the rings, a thread, or a cancel or removal is one of the event.
pub event_shown : (s : Setup) (i : ℕ) (before : Machine) (e : Event) (next_state : Machine) → All (IsShown s i before e next_state) (of_event s i before e next_state)
event_shown s i before e next_state =
    All-append (IsShown s i before e next_state) (of_overflow i (overflows before) (overflows next_state)) (of_step i (changes_at before (done_by s before e)) (done_by s before e) e next_state ++ of_cancel i (cancel_before before e) next_state.table)
    (given_only (IsShown s i before e next_state) (not (overflows before) && overflows next_state) (the_finding i group.Overflow zero) (λ h. (refl, h)))
    (All-append (IsShown s i before e next_state) (of_step i (changes_at before (done_by s before e)) (done_by s before e) e next_state) (of_cancel i (cancel_before before e) next_state.table)
    (step_shown s i before e next_state (done_by s before e) refl) (cancel_shown s i before e next_state (cancel_before before e) refl))

overflow_there : (i : ℕ) (before next_state : Machine) (n : ℕ) → spills before next_state n ≡ true → Has (of_overflow i (overflows before) (overflows next_state)) (the_finding i group.Overflow n)
overflow_there i before next_state n h =
    let parts = and_parts (n == zero) (not (overflows before) && overflows next_state) h in
    subst (λ (k : ℕ). Has (of_overflow i (overflows before) (overflows next_state)) (the_finding i group.Overflow k)) (sym (eqb-true n zero parts.0)) (given_there (not (overflows before) && overflows next_state) (the_finding i group.Overflow zero) parts.1)

step_there : (i : ℕ) (kind : StepKind) (before : Machine) (o : Option Instruction) (e : Event) (next_state : Machine) (n : ℕ) → is_step_of n e ≡ true → option_map_or (λ (x : Instruction). is_of_step kind (changes_slot before x) x next_state n) o false ≡ true
    → Has (of_step i (changes_at before o) o e next_state) (the_finding i (group.Step kind) n)
step_there i kind before None (Step t) next_state n a b = absurd (clash b)
step_there i kind before (Some x) (Step t) next_state n a b =
    let same : t ≡ n = eqb-true t n a in
    let here : is_of_step kind (changes_slot before x) x next_state t ≡ true = ap (is_of_step kind (changes_slot before x) x next_state) same ∙ b in
    subst (λ (k : ℕ). Has (of_instruction i (changes_slot before x) x next_state t) (the_finding i (group.Step kind) k)) same
    (group_there group.Step (λ (k : StepKind). is_of_step k (changes_slot before x) x next_state t) i t step_kinds kind (is_step_kind kind) here)
step_there i kind before o _ next_state n a b = absurd (clash a)

cancel_there : (i : ℕ) (kind : CancelKind) (o : Option Cancel) (rows : List Row) (n : ℕ) → option_map_or (λ (x : Cancel). (x.number == n) && is_of_cancel kind x rows) o false ≡ true → Has (of_cancel i o rows) (the_finding i (group.Cancel kind) n)
cancel_there i kind None rows n h = absurd (clash h)
cancel_there i kind (Some x) rows n h =
    let parts = and_parts (x.number == n) (is_of_cancel kind x rows) h in
    subst (λ (k : ℕ). Has (of_cancel i (Some x) rows) (the_finding i (group.Cancel kind) k)) (eqb-true x.number n parts.0)
    (group_there group.Cancel (λ (k : CancelKind). is_of_cancel k x rows) i x.number cancel_kinds kind (is_cancel_kind kind) parts.1)

-- Each finding of the event about the rings, a thread, or a cancel or removal is computed.
module _ (s : Setup) (i : ℕ) (before : Machine) (e : Event) (next_state : Machine) where
  pub event_overflow : (n : ℕ) → spills before next_state n ≡ true → Has (of_event s i before e next_state) (the_finding i group.Overflow n)
  event_overflow n h = has_left (of_overflow i (overflows before) (overflows next_state)) _ _ (overflow_there i before next_state n h)

  pub event_step : (kind : StepKind) (n : ℕ) → step_shows s kind before e next_state n ≡ true → Has (of_event s i before e next_state) (the_finding i (group.Step kind) n)
  event_step kind n h =
      let parts = and_parts (is_step_of n e) (option_map_or (λ (x : Instruction). is_of_step kind (changes_slot before x) x next_state n) (done_by s before e) false) h in
      has_right (of_overflow i (overflows before) (overflows next_state)) _ _
      (has_left (of_step i (changes_at before (done_by s before e)) (done_by s before e) e next_state) _ _ (step_there i kind before (done_by s before e) e next_state n parts.0 parts.1))

  pub event_cancel : (kind : CancelKind) (n : ℕ) → cancel_shows kind before e next_state n ≡ true → Has (of_event s i before e next_state) (the_finding i (group.Cancel kind) n)
  event_cancel kind n h =
      has_right (of_overflow i (overflows before) (overflows next_state)) _ _
      (has_right (of_step i (changes_at before (done_by s before e)) (done_by s before e) e next_state) _ _ (cancel_there i kind (cancel_before before e) next_state.table n h))
