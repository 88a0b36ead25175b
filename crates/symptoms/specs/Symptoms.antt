-- What a run is searched for, and the moments at which it shows that.
use Rattle.std.specs.Prelude.{◌≡◌, ℕ, ◌-◌, ◌≤◌, Bool, true, false, not, ◌&&◌, ◌||◌, Option, Some, None, List, filter, length}
use Rattle.std.specs.List.{list_any, All, Contains}
use Rattle.places.specs.View.{View}
use Rattle.scenario.specs.declared.event.Event.{Event}
use Rattle.scenario.specs.declared.setup.Setup.{Setup}
use Rattle.machine.specs.Whole.{view}
use Rattle.machine.specs.Runs.{moment as machine_at}
use Rattle.quiescence.specs.Over.{IsOver}
use Rattle.finding_kinds.specs.declared.finding.Finding.{Finding}
use Rattle.finding_kinds.specs.declared.kind.Kind.{Kind}
use Rattle.finding_kinds.specs.declared.kind.Kind.TheVariants.{Conflict, Ended, Lasting, Left}
use Rattle.finding_kinds.specs.declared.kind.ConflictKind.TheVariants.{FsyncEarly}
use Rattle.finding_kinds.specs.declared.kind.EndedKind.TheVariants.{Failed, Short}
use Rattle.finding_kinds.specs.declared.kind.Verdict.TheVariants.{Fault}
use Rattle.finding_kinds.specs.contracts.kind.KindPartialEq.TheImpl as compared
use Rattle.finding_kinds.specs.Kinds.{is_fault}
use Rattle.finding_kinds.specs.Orders.{have_one_name}
use Rattle.findings.specs.Findings.{IsFinding, Rises}
use Rattle.symptoms.specs.declared.symptom.Goal.{Goal}
use Rattle.symptoms.specs.declared.symptom.Wanted.{Wanted}
use Rattle.symptoms.specs.declared.symptom.Wanted.TheVariants.{FaultsBut, Kinds, Exactly}
use Rattle.symptoms.specs.declared.symptom.Symptom.{Symptom}
use Rattle.symptoms.specs.declared.symptom.Symptom.TheVariants as sought
use Rattle.symptoms.specs.declared.symptom.Sighting.{Sighting}

-- ---- findings

-- Whether a correct program can have findings of this kind, because devices fail: requests that
-- fail or are short.
abbrev pub is_of_device : Kind → Bool
is_of_device (Ended Failed) = true
is_of_device (Ended (Short verdict)) = true
is_of_device kind = false

-- Whether a kind has one of the names of some kinds.
abbrev pub is_among : List Kind → Kind → Bool
is_among names kind = list_any (λ name. have_one_name name kind) names

-- Whether findings of a kind are wanted.
abbrev pub is_wanted : Wanted → Kind → Bool
is_wanted (FaultsBut names) kind = is_fault kind && not (is_of_device kind) && not (is_among names.now kind)
is_wanted (Kinds names) kind = is_among names.now kind
is_wanted (Exactly one) kind = (compared.ghosts).eq one kind

-- Whether findings of a kind are about the end of a run: what lasts to it, or is left then.
abbrev pub is_of_end : Kind → Bool
is_of_end (Lasting kind) = true
is_of_end (Left kind) = true
is_of_end (Conflict (FsyncEarly Fault)) = true
is_of_end kind = false

-- A finding of a run is conclusive. One about the end is, if the run is over then. If it isn't, the
-- run is cut off: it could continue, and its last moment is no end.
pub record IsConclusive (s : Setup) (es : List Event) (f : Finding) : Type 0 where
  pub finding : IsFinding s es f
  pub over : is_of_end f.kind ≡ true → IsOver (machine_at s es (length es))

-- The findings that are conclusive, given whether the run is over at its end.
abbrev pub conclusive : Bool → List Finding → List Finding
conclusive over fs = filter (λ (f : Finding). over || not (is_of_end f.kind)) fs

-- A wanted finding of a run, at moment m.
pub record IsWantedAt (s : Setup) (es : List Event) (wanted : Wanted) (m : ℕ) (f : Finding) : Type 0 where
  pub finding : IsConclusive s es f
  pub kind : is_wanted wanted f.kind ≡ true
  pub moment : f.moment ≡ m

-- ---- places

-- The place of each goal has its value.
abbrev pub HoldAll : View → List Goal → Type 0
HoldAll seen goals = All (λ goal. seen goal.place ≡ Some goal.value) goals

-- All goals hold in the new view, and they don't all hold in the old one.
pub record Took (old new : View) (goals : List Goal) : Type 0 where
  pub here : HoldAll new goals
  pub before : HoldAll old goals → ⊥

-- At moment m of a run all goals hold, and they don't all hold one event earlier.
abbrev pub TakesAt : Setup → List Event → List Goal → ℕ → Type 0
TakesAt s es goals m = Took (view (machine_at s es (m - 1))) (view (machine_at s es m)) goals

-- ---- symptoms

-- A run shows a symptom at moment m: by a wanted finding, or by the values of places.
abbrev pub Shows : Setup → List Event → Symptom → ℕ → Type 0
Shows s es (sought.Finding wanted) m = (f : Finding) × IsWantedAt s es wanted m f
Shows s es (sought.Reaches goals) m = TakesAt s es goals.now m

-- What shows a symptom at moment m: this finding, or the values of places.
abbrev pub IsSeenAt : Setup → List Event → Symptom → ℕ → Option Finding → Type 0
IsSeenAt s es (sought.Finding wanted) m (Some f) = IsWantedAt s es wanted m f
IsSeenAt s es (sought.Finding wanted) m None = ⊥
IsSeenAt s es (sought.Reaches goals) m (Some f) = ⊥
IsSeenAt s es (sought.Reaches goals) m None = TakesAt s es goals.now m

-- A run shows a symptom first as the sighting says.
pub record IsSighting (s : Setup) (es : List Event) (wanted : Symptom) (x : Sighting) : Type 0 where
  pub shown : Shows s es wanted x.moment
  pub seen : IsSeenAt s es wanted x.moment x.finding
  pub least : (m : ℕ) → Shows s es wanted m → x.moment ≤ m

-- The first sighting of a symptom in a run: None if the run doesn't show it.
abbrev pub IsFirst : Setup → List Event → Symptom → Option Sighting → Type 0
IsFirst s es wanted (Some x) = IsSighting s es wanted x
IsFirst s es wanted None = (m : ℕ) → Shows s es wanted m → ⊥

-- Exactly the conclusive findings of a run, each once, in order.
pub record AreConclusive (s : Setup) (es : List Event) (fs : List Finding) : Type 0 where
  pub only : All (IsConclusive s es) fs
  pub whole : (f : Finding) → IsConclusive s es f → Contains fs f
  pub order : Rises fs

-- The sighting of a finding.
abbrev pub seen_by : Finding → Sighting
seen_by f = record { moment = f.moment; finding = Some f }

-- The sighting of places' values at a moment.
abbrev pub seen_at : ℕ → Sighting
seen_at m = record { moment = m; finding = None }
