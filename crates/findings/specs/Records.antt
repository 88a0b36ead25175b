-- The findings of an event as the search computes them, from the undo record of the event.
use Rattle.std.specs.Prelude.{◌≡◌, ℕ, ◌<◌, ◌==◌, Bool, true, false, not, ◌&&◌, ◌++◌, if◌then◌else◌, Option, Some, None, List, [], ◌∷◌, length, slice_get, All, filter, flat_map, Contains}
use Rattle.findings.specs.Common.{option_map_or, enumerate_from, is_open, Row, Place, Request, Change, Value, Requested, View, Exact, NamesOnce, Event, Step, Instruction, Setup, Machine, view, Kind, EndedKind, Unfinished, NotDurable, ConflictKind, StepKind, QueuedKind, CancelKind, ended_kinds, conflict_kinds, step_kinds, queued_kinds, cancel_kinds, Completed, Member, Before, Effect, Nothing, Finding, Cancel}
use Rattle.findings.specs.{Findings.IsFinding, Findings.IsLeft, Findings.Lasts, Findings.Retries, Findings.occurs_at, Timespecs.of_timespecs}
use Rattle.finding_rules.specs.{AtEnd.fault_if, AtEnd.has_fsync, Canceling.cancel_before, Canceling.is_of_cancel, Completions.cancels, Completions.circumstances, Completions.is_severing, Completions.member_of, Conditions.done_by, Conditions.has_unsynced, Conditions.is_of_step, Conditions.overflows, Conflicts.conflicts, Conflicts.done_at, Conflicts.is_candidate, Endings.Circumstances, Endings.ended_test, Endings.queued_test, Numbers.numbers_below, Uses.changes_at, Verdicts.judged_kind}
use Rattle.finding_kinds.specs.declared.kind.Kind.TheVariants as group
pub use Rattle.findings.specs.Given.{given}
pub use Rattle.finding_rules.specs.Noted.{continues, depends_on_others, is_notable, is_plain, is_severed_in, noted, took_all}

-- ---- one record

-- The findings about one subject of those kinds of a group that pass a test.
abbrev pub of_group : {K : Type 0} → (K → Kind) → (K → Bool) → ℕ → ℕ → List K → List Finding
of_group whole test i n kinds = flat_map (λ kind. given (test kind) (record { moment = i; kind = whole kind; subject = n })) kinds

-- The findings about the completion of request r.
abbrev pub of_ended : ℕ → Circumstances → Option Row → List Row → ℕ → Row → List Finding
of_ended i c before rows r row = of_group group.Ended (λ (kind : EndedKind). ended_test kind c before rows r row) i r ended_kinds

-- The findings about the submission of request r.
abbrev pub of_queued : ℕ → Option Row → List Row → ℕ → Row → List Finding
of_queued i before rows r row = of_group group.Queued (λ (kind : QueuedKind). queued_test kind before rows r row) i r queued_kinds

-- All findings about request r.
abbrev pub of_row : ℕ → Circumstances → Option Row → List Row → ℕ → Row → List Finding
of_row i c before rows r row = of_ended i c before rows r row ++ of_queued i before rows r row

-- The request that a value is, if it is one.
abbrev pub row_in : Option Value → Option Row
row_in (Some (Requested row)) = Some row
row_in _ = None

-- The findings about a recorded place, if it is a request. `circumstances_of` gives the circumstances.
abbrev pub of_place : ℕ → (ℕ → Row → Circumstances) → List Row → Option Value → Place → List Finding
of_place i circumstances_of rows before (Request r) = option_map_or (λ row. of_row i (circumstances_of r row) (row_in before) rows r row) (slice_get rows r) []
of_place i circumstances_of rows before _ = []

-- The findings about one change of a record.
abbrev pub of_change : ℕ → (ℕ → Row → Circumstances) → List Row → Change → List Finding
of_change i circumstances_of rows c = of_place i circumstances_of rows c.old c.place

-- Whether a place is a request.
abbrev pub is_row : Place → Bool
is_row (Request r) = true
is_row _ = false

-- No change names a request.
abbrev pub OfNoRow : List Change → Type 0
OfNoRow [] = Unit {0}
OfNoRow (c ∷ cs) = (is_row c.place ≡ false) × OfNoRow cs

-- ---- completed requests

-- Request r, if the test is true.
abbrev pub member_if : Bool → ℕ → Row → List Member
member_if test r row = if test then member_of r row ∷ [] else []

-- A recorded place, if it is a request that passes a test of it before and after the event.
abbrev pub members_at : (ℕ → Option Row → Row → Bool) → List Row → Option Value → Place → List Member
members_at test rows before (Request r) = option_map_or (λ row. member_if (test r (row_in before) row) r row) (slice_get rows r) []
members_at test rows before _ = []

-- The same for one change of a record.
abbrev pub members_of : (ℕ → Option Row → Row → Bool) → List Row → Change → List Member
members_of test rows c = members_at test rows c.old c.place

-- Whether an event completes request r, and it severs its chain, which has a later request.
abbrev pub severs_chain : List Row → ℕ → Option Row → Row → Bool
severs_chain rows r before row = continues rows r row && is_severing before row

-- Whether an event cancels request r, which is no linked timeout.
abbrev pub cancels_at : ℕ → Option Row → Row → Bool
cancels_at r before row = cancels before row

-- The requests that severed their chain in an event, and those that it canceled, by its record and
-- the machine after it.
abbrev pub severing_in : Machine → List Change → List Member
severing_in m past = flat_map (members_of (severs_chain m.table) m.table) past

abbrev pub canceled_in : Machine → List Change → List Member
canceled_in m past = flat_map (members_of cancels_at m.table) past

-- The lists are those of the event, if they were computed.
abbrev pub IsListed : Machine → List Change → Completed → Type 0
IsListed m past c = c.is_known ≡ true → (c.severing.items ≡ severing_in m past) × (c.canceled.items ≡ canceled_in m past)

-- The same, by the record of the event.
abbrev pub noted_by : Setup → List Change → Before → Event → Machine → ℕ → Row → Circumstances
noted_by s past b e after r row = noted s (severing_in after past) (canceled_in after past) b e after r row

-- ---- one event

-- Completions went to the backlog, which was empty before.
abbrev pub of_overflow : ℕ → Bool → Bool → List Finding
of_overflow i before after = given (not before && after) (record { moment = i; kind = group.Overflow; subject = 0 })

-- The findings about an instruction that thread t did. `changes` says whether it changed a slot.
abbrev pub of_instruction : ℕ → Bool → Instruction → Machine → ℕ → List Finding
of_instruction i changes x after t = of_group group.Step (λ (kind : StepKind). is_of_step kind changes x after t) i t step_kinds

-- The findings about a step of a thread; none for any other event.
abbrev pub of_step : ℕ → Bool → Option Instruction → Event → Machine → List Finding
of_step i changes (Some x) (Step t) after = of_instruction i changes x after t
of_step i changes x e after = []

-- The findings about a completed cancel or removal.
abbrev pub of_canceling : ℕ → Cancel → List Row → List Finding
of_canceling i x rows = of_group group.Cancel (λ (kind : CancelKind). is_of_cancel kind x rows) i x.number cancel_kinds

-- The findings about the cancel or removal that an event completes, if it completes one.
abbrev pub of_cancel : ℕ → Option Cancel → List Row → List Finding
of_cancel i None rows = []
of_cancel i (Some x) rows = of_canceling i x rows

-- The findings of an event about the rings, the threads, and a cancel or removal.
abbrev pub of_event : Setup → ℕ → Machine → Event → Machine → List Finding
of_event s i before e after = of_overflow i (overflows before) (overflows after) ++ (of_step i (changes_at before (done_by s before e)) (done_by s before e) e after ++ of_cancel i (cancel_before before e) after.table)

-- ---- conflicts

-- The conflicts with request q, whose row is given.
abbrev pub of_candidate : ℕ → Setup → Machine → Effect → ℕ → Row → List Finding
of_candidate i s m effect q row = of_group group.Conflict (λ (kind : ConflictKind). conflicts kind s m effect q row) i q conflict_kinds

-- The conflicts with request q.
abbrev pub of_number : ℕ → Setup → Machine → Effect → ℕ → List Finding
of_number i s m effect q = option_map_or (of_candidate i s m effect q) (slice_get m.table q) []

-- The conflicts of an event with the requests of some numbers.
abbrev pub of_conflicts : ℕ → Setup → Machine → Effect → List ℕ → List Finding
of_conflicts i s m Nothing numbers = []
of_conflicts i s m effect numbers = flat_map (of_number i s m effect) numbers

-- The findings about the effect of an event: conflicts, and timespecs that it overwrites.
abbrev pub of_effect : ℕ → Setup → Machine → Effect → List ℕ → List Finding
of_effect i s m effect numbers = of_conflicts i s m effect numbers ++ of_timespecs i m effect

-- ---- the numbers of the incomplete READs and WRITEs

-- Whether a value is an incomplete READ or WRITE.
abbrev pub is_candidate_in : Option Value → Bool
is_candidate_in v = option_map_or is_candidate (row_in v) false

-- The numbers after an update for request q: whether it was an incomplete READ or WRITE, and
-- whether it is one.
abbrev pub followed : List ℕ → ℕ → Bool → Bool → List ℕ
followed numbers q true true = numbers
followed numbers q false true = numbers ++ q ∷ []
followed numbers q true false = filter (λ k. not (k == q)) numbers
followed numbers q false false = numbers

-- The numbers after one change of a record.
abbrev pub after_note : View → List ℕ → Option Value → Place → List ℕ
after_note after numbers old (Request q) = followed numbers q (is_candidate_in old) (is_candidate_in (after (Request q)))
after_note after numbers old _ = numbers

-- The numbers after all changes of a record.
abbrev pub after_notes : View → List ℕ → List Change → List ℕ
after_notes after numbers [] = numbers
after_notes after numbers (c ∷ cs) = after_notes after (after_note after numbers c.old c.place) cs

-- Each incomplete READ and WRITE is one of some numbers.
abbrev pub Covers : List Row → List ℕ → Type 0
Covers rows numbers = (q : ℕ) → option_map_or is_candidate (slice_get rows q) false ≡ true → Contains numbers q

-- ---- all findings of one event

-- The search has added the findings of event i, using the undo record of the event, and updated the
-- numbers of the incomplete READs and WRITEs.
pub record Adds (s : Setup) (i : ℕ) (before : Machine) (e : Event) (after : Machine) (fs gs : List Finding) (numbers now : List ℕ) : Type 0 where
  pub past : List Change
  pub exact : Exact (view before) (view after) past
  pub once : NamesOnce past
  pub added : gs ≡ ((fs ++ flat_map (of_change i (circumstances s before e after) after.table) past) ++ of_event s i before e after) ++ of_effect i s after (done_at s before e after) now
  pub further : now ≡ after_notes (view after) numbers past

-- Exactly the findings of the first n events.
pub record FoundBefore (s : Setup) (es : List Event) (n : ℕ) (fs : List Finding) : Type 0 where
  pub only : All (λ f. (f.moment < n) × (occurs_at s es f.moment f.kind f.subject ≡ true)) fs
  pub whole : (f : Finding) → f.moment < n → occurs_at s es f.moment f.kind f.subject ≡ true → Contains fs f

-- Exactly the retried FSYNCs that the first n events complete.
pub record RetriedBefore (s : Setup) (es : List Event) (n : ℕ) (fs : List Finding) : Type 0 where
  pub only : All (λ f. (f.moment < n) × Retries s es f) fs
  pub whole : (f : Finding) → f.moment < n → Retries s es f → Contains fs f

-- Exactly the conditions that last to the end.
pub record IsLasting (s : Setup) (es : List Event) (fs : List Finding) : Type 0 where
  pub only : All (Lasts s es) fs
  pub whole : (f : Finding) → Lasts s es f → Contains fs f

-- A finding if the numbered request is incomplete at the end. The Bool says whether the run is over
-- then.
abbrev pub of_left : ℕ → Bool → ℕ × Row → List Finding
of_left n over p = given (is_open p.1) (record { moment = n; kind = group.Left (Unfinished (fault_if over)); subject = p.0 })

-- The findings about all incomplete requests.
abbrev pub all_left : ℕ → Bool → List Row → List Finding
all_left n over rows = flat_map (of_left n over) (enumerate_from 0 rows)

-- A finding if the object is a file that isn't durable at the end.
abbrev pub of_object : Setup → ℕ → Machine → ℕ → List Finding
of_object s n m o = given (has_unsynced m.world o) (record { moment = n; kind = group.Left (NotDurable (fault_if (has_fsync s m.table o))); subject = o })

-- The findings about all files that aren't durable.
abbrev pub all_unsynced : Setup → ℕ → Machine → List Finding
all_unsynced s n m = flat_map (of_object s n m) (numbers_below (length s.objects))

-- The findings about all that is left.
abbrev pub all_at_end : Setup → ℕ → Bool → Machine → List Finding
all_at_end s n over m = all_left n over m.table ++ all_unsynced s n m

-- Exactly the requests that are incomplete at the end, and the files that aren't durable.
pub record AreLeft (s : Setup) (es : List Event) (fs : List Finding) : Type 0 where
  pub only : All (IsLeft s es) fs
  pub whole : (f : Finding) → IsLeft s es f → Contains fs f

-- A finding with its verdict, once it is known which WRITEs are lost.
abbrev pub judged : (ℕ → Bool) → Finding → Finding
judged lost f = record f { kind = judged_kind lost f.kind f.subject }

-- Exactly the findings of a run, in any order.
pub record IsAll (s : Setup) (es : List Event) (fs : List Finding) : Type 0 where
  pub only : All (IsFinding s es) fs
  pub whole : (f : Finding) → IsFinding s es f → Contains fs f

-- Two lists have the same findings as members.
pub record SameFindings (fs gs : List Finding) : Type 0 where
  pub there : (f : Finding) → Contains fs f → Contains gs f
  pub back : (f : Finding) → Contains gs f → Contains fs f
