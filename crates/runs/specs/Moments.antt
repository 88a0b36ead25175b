-- What an observer is given of a run, at each event and when the run ends early.
use Rattle.std.specs.Prelude.{◌≡◌, ◌<◌, ◌+◌, ℕ, List, slice_get, length, take, Some}
use Rattle.runs.specs.Common.{Change, Exact, Event, Setup, Machine, view, start, moment, Accepts, IsRefused, Link, Ended, Refused, Stopped, Either, First, Second}
use Rattle.runs.specs.declared.driving.Ended.TheVariants.{Memory}

-- The first i events of a run are accepted, and lead from its start to the machine m.
pub record IsAt (s : Setup) (es : List Event) (i : ℕ) (m : Machine) : Type 0 where
  pub runs : Accepts (start s) (take i es)
  pub here : m ≡ moment s es i

-- The machine m is the one before event i, which is e.
pub record IsBefore (s : Setup) (es : List Event) (i : ℕ) (e : Event) (m : Machine) : Type 0 where
  pub there : slice_get es i ≡ Some e
  pub at : IsAt s es i m

-- The machine m is the one after event i, which is e, and `past` is its exact undo record.
pub record IsAfter (s : Setup) (es : List Event) (i : ℕ) (e : Event) (past : List Change) (m : Machine) : Type 0 where
  pub there : slice_get es i ≡ Some e
  pub at : IsAt s es (i + 1) m
  pub link : Link (moment s es i) e past m
  pub exact : Exact (view (moment s es i)) (view m) past

-- Why a run ends early, with the machine and the observer then. If an event is refused, or an
-- allocation fails at it, the machine is the one before that event. The observer has seen exactly
-- the earlier events. An observer may stop the run at any event.
abbrev pub Ends : {O E : Type 0} → (O → Setup → List Event → ℕ → Type 0)
    → (O → Setup → List Event → ℕ → E → Type 0)
    → Setup → List Event → Machine → O → Ended E → Type 0
Ends seen stops s es m o (Refused i r) = IsRefused s es i r × IsAt s es i m × seen o s es i
Ends seen stops s es m o Memory = (i : ℕ) × (i < length es) × IsAt s es i m × seen o s es i
Ends seen stops s es m o (Stopped x) =
    (i : ℕ) × (i < length es) × Accepts (start s) (take i es) × stops o s es i x

-- Why a pair of observers stops: the reason of one of them.
abbrev pub PairStops : {A B E F : Type 0} → (A → Setup → List Event → ℕ → E → Type 0)
    → (B → Setup → List Event → ℕ → F → Type 0)
    → A → B → Setup → List Event → ℕ → Either E F → Type 0
PairStops StopsA StopsB a b s es i (First x) = StopsA a s es i x
PairStops StopsA StopsB a b s es i (Second x) = StopsB b s es i x
