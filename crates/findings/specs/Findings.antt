-- The findings of a run, by the machines before and after each event.
use Rattle.std.specs.Prelude.{◌≡◌, ℕ, ◌==◌, Bool, true, false, not, ◌&&◌, ◌⊎◌, Some, length, List, slice_get, All, Contains}
use Rattle.findings.specs.Common.{option_map_or, IsStrictlySortedBy, Event, Setup, Machine, after, machine_at, SaysOver, Kind, Overflow, Lasting, Left, Conflict, Queued, TimespecInUse, FsyncRetried, EndedKind, LastingKind, LeftKind, QueuedKind, StepKind, Finding, order_of, Condition}
use Rattle.finding_kinds.specs.declared.kind.Kind.TheVariants.{Cancel, Ended, Step}
use Rattle.finding_rules.specs.{AtEnd.is_left, AtEnd.reported_as, Canceling.cancel_shows, Completions.circumstances, Conditions.Began, Conditions.condition_holds, Conditions.done_by, Conditions.is_of_step, Conditions.is_step_of, Conditions.overflows, Conflicts.clashes, Conflicts.done_at, Durability.IsRetried, Durability.has_byte_of, Durability.is_volatile_at, Durability.written_before, Endings.ended_test, Endings.queued_test, Timespecs.overwrites, Uses.changes_slot}
pub use Rattle.finding_rules.specs.Verdicts.{judged_kind}

-- ---- order

-- Each finding is less than all later ones.
abbrev pub Rises : List Finding → Type 0
Rises fs = IsStrictlySortedBy order_of fs

-- ---- events

-- Whether an event completes request r, and that is a finding.
abbrev pub ends : Setup → EndedKind → Machine → Event → Machine → ℕ → Bool
ends s kind before e next_state r =
    option_map_or (λ row. ended_test kind (circumstances s before e next_state r row) (slice_get before.table r) next_state.table r row) (slice_get next_state.table r) false

-- Whether an event submits request r, and that is a finding.
abbrev pub comes : QueuedKind → Machine → Machine → ℕ → Bool
comes kind before next_state r = option_map_or (queued_test kind (slice_get before.table r) next_state.table r) (slice_get next_state.table r) false

-- Whether completions went to the backlog, which was empty before. The subject is 0.
abbrev pub spills : Machine → Machine → ℕ → Bool
spills before next_state n = (n == 0) && (not (overflows before) && overflows next_state)

-- Whether an event is a step of thread t and a finding about it.
abbrev pub step_shows : Setup → StepKind → Machine → Event → Machine → ℕ → Bool
step_shows s kind before e next_state t = is_step_of t e && option_map_or (λ x. is_of_step kind (changes_slot before x) x next_state t) (done_by s before e) false

-- Whether an event that leads from one machine to another is a finding about subject n.
abbrev pub occurs : Setup → Kind → Machine → Event → Machine → ℕ → Bool
occurs s (Ended kind) before e next_state n = ends s kind before e next_state n
occurs s (Queued kind) before e next_state n = comes kind before next_state n
occurs s Overflow before e next_state n = spills before next_state n
occurs s (Step kind) before e next_state n = step_shows s kind before e next_state n
occurs s (Cancel kind) before e next_state n = cancel_shows kind before e next_state n
occurs s (Conflict kind) before e next_state n = clashes s kind before e next_state n
occurs s TimespecInUse before e next_state n = overwrites next_state (done_at s before e next_state) n
occurs s FsyncRetried before e next_state n = false
occurs s (Lasting kind) before e next_state n = false
occurs s (Left kind) before e next_state n = false

-- Whether event i of a run is a finding about subject n.
abbrev pub occurs_at : Setup → List Event → ℕ → Kind → ℕ → Bool
occurs_at s es i kind n =
    option_map_or (λ e. occurs s kind (machine_at s es i) e (after (machine_at s es i) e) n) (slice_get es i) false

-- ---- the end

-- Whether a condition holds at moment i of a run.
abbrev pub condition_holds_at : Setup → List Event → Condition → ℕ → ℕ → Bool
condition_holds_at s es condition n i = condition_holds s condition (machine_at s es i) n

-- A Bool says whether a run is over at its end: nothing more can happen then but idle events.
abbrev pub EndsOver : Setup → List Event → Bool → Type 0
EndsOver s es over = SaysOver over (machine_at s es (length es))

-- A condition about subject n has held since moment i and lasts to the end, and is reported as this
-- kind.
pub record IsReported (s : Setup) (es : List Event) (i : ℕ) (kind : LastingKind) (n : ℕ) : Type 0 where
  pub over : Bool
  pub ends : EndsOver s es over
  pub condition : Condition
  pub reported : reported_as condition over (machine_at s es (length es)) ≡ Some kind
  pub began : Began (condition_holds_at s es condition n) (length es) i

-- A request that is incomplete at the end, or a file that isn't durable then.
pub record IsAtEnd (s : Setup) (es : List Event) (i : ℕ) (kind : LeftKind) (n : ℕ) : Type 0 where
  pub over : Bool
  pub ends : EndsOver s es over
  pub last : i ≡ length es
  pub left : is_left s over kind (machine_at s es (length es)) n ≡ true

-- A finding about subject n that is a condition, at the moment since when it holds.
abbrev pub LastsSince : Setup → List Event → ℕ → Kind → ℕ → Type 0
LastsSince s es i (Lasting kind) n = IsReported s es i kind n
LastsSince s es i kind n = ⊥

-- A finding about subject n that is left at the end.
abbrev pub IsLeftAt : Setup → List Event → ℕ → Kind → ℕ → Type 0
IsLeftAt s es i (Left kind) n = IsAtEnd s es i kind n
IsLeftAt s es i kind n = ⊥

abbrev pub Lasts : Setup → List Event → Finding → Type 0
Lasts s es f = LastsSince s es f.moment f.kind f.subject

abbrev pub IsLeft : Setup → List Event → Finding → Type 0
IsLeft s es f = IsLeftAt s es f.moment f.kind f.subject

-- ---- verdicts by the end

-- Whether request q was a WRITE that moved bytes of a file some of which are not durable at the end
-- of the run.
abbrev pub is_lost : Setup → List Event → ℕ → Bool
is_lost s es q = has_byte_of (is_volatile_at (machine_at s es (length es))) (written_before s es (length es)) q

-- An event is a finding of some kind, and this is its kind by the end of the run.
abbrev pub Occurs : Setup → List Event → Finding → Type 0
Occurs s es f = (shown : Kind) × (occurs_at s es f.moment shown f.subject ≡ true) × (f.kind ≡ judged_kind (is_lost s es) shown f.subject)

-- ---- FSYNCs that are retried

-- An event that completes an FSYNC without error though bytes are suspect.
abbrev pub IsRetriedAt : Setup → List Event → ℕ → Kind → ℕ → Type 0
IsRetriedAt s es i FsyncRetried r = IsRetried s es i r
IsRetriedAt s es i kind r = ⊥

abbrev pub Retries : Setup → List Event → Finding → Type 0
Retries s es f = IsRetriedAt s es f.moment f.kind f.subject

-- ---- all findings

-- A finding of a run is one of four: an event, at the moment before it; a condition that lasts to
-- the end, at the moment since when it holds; something left at the end; or an event that retries a
-- failed FSYNC, at the moment before it.
abbrev pub IsFinding : Setup → List Event → Finding → Type 0
IsFinding s es f = Occurs s es f ⊎ (Lasts s es f ⊎ (IsLeft s es f ⊎ Retries s es f))

-- Exactly the findings of a run: nothing else, nothing left out, each once, in order.
pub record IsReportOf (s : Setup) (es : List Event) (fs : List Finding) : Type 0 where
  pub only : All (IsFinding s es) fs
  pub whole : (f : Finding) → IsFinding s es f → Contains fs f
  pub order : Rises fs
