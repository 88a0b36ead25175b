-- The definitions for a trail: a run that is walked by single steps.
use Rattle.std.specs.Prelude.{◌≡◌, ℕ, ◌+◌, ◌*◌, ◌-◌, ◌^◌, ◌<◌, ◌≤◌, ◌⊎◌, min, List, [], ◌∷◌, ◌++◌, length, take, slice_get, Some, None}
use Rattle.places.specs.declared.value.Change.{Change}
use Rattle.places.specs.View.{Exact}
use Rattle.machine.specs.declared.whole.Machine.{Machine}
use Rattle.scenario.specs.declared.setup.Setup.{Setup}
use Rattle.scenario.specs.declared.event.Event.{Event}
use Rattle.scenario.specs.declared.event.Refusal.{Refusal}
use Rattle.scenario.specs.declared.event.Refusal.TheVariants.{Memory}
use Rattle.machine.specs.Whole.{view}
use Rattle.machine.specs.Steps.{refusal, after}
use Rattle.machine.specs.Runs.{start, run, moment, Accepts, Linked}
use Rattle.inverse_log.specs.declared.trail.Tally.{Tally}
use Rattle.inverse_log.specs.declared.trail.Tally.TheVariants.{Counted, Free}

-- A trail as contracts see it: the setup, the events, the position (the number of events that have
-- been applied), and how many steps were counted.
pub record Track : Type 0 where
  pub setup : Setup
  pub events : List Event
  pub at : ℕ
  pub walked : ℕ

-- The machine at the position.
abbrev pub current : Track → Machine
current t = moment t.setup t.events t.at

-- The machine after the last event.
abbrev pub ends : Track → Machine
ends t = run (start t.setup) t.events

-- The distance between two moments.
abbrev pub distance : ℕ → ℕ → ℕ
distance a b = (a - b) + (b - a)

-- The count n after k more steps. It saturates at 2^64 - 1; free steps leave it unchanged.
abbrev pub tallied : Tally → ℕ → ℕ → ℕ
tallied Counted n k = min (n + k) (2 ^ 64 - 1)
tallied Free n k = n

-- The track moved to moment m by single steps.
abbrev pub stepped : Tally → Track → ℕ → Track
stepped c t m =
    record
    { setup = t.setup; events = t.events; at = m; walked = tallied c t.walked (distance t.at m) }

-- The track moved to moment m by the given number of steps.
abbrev pub reached : Tally → Track → ℕ → ℕ → Track
reached c t m steps =
    record { setup = t.setup; events = t.events; at = m; walked = tallied c t.walked steps }

-- The track with the events `es` appended, at moment m.
abbrev pub grown : Track → List Event → ℕ → Track
grown t es m = record { setup = t.setup; events = t.events ++ es; at = m; walked = t.walked }

-- From machine m, the first i events run, and event i is refused with n: by a rule,
-- or with `Memory` where no rule refuses it. At index 0 `Memory` may also come
-- before the event is looked at.
pub record RefusedAt (m : Machine) (es : List Event) (i : ℕ) (n : Refusal) : Type 0 where
  pub event : Event
  pub there : slice_get es i ≡ Some event
  pub runs : Accepts m (take i es)
  pub refused : (refusal (run m (take i es)) event ≡ Some n)
      ⊎ ((n ≡ Memory) × ((i ≡ 0) ⊎ (refusal (run m (take i es)) event ≡ None)))

-- Record by record: each names exactly the places that its event changes, with their old values.
abbrev pub Recorded : Machine → List Event → List (List Change) → Type 0
Recorded m [] [] = Unit {0}
Recorded m (e ∷ es) (r ∷ rs) = Exact (view m) (view (after m e)) r × Recorded (after m e) es rs
Recorded m [] (r ∷ rs) = ⊥
Recorded m (e ∷ es) [] = ⊥

-- The copies are the states at all multiples of `every` that are moments of the run, in order.
pub record Covers (setup : Setup) (events : List Event) (every : ℕ) (copies : List Machine) : Type 0 where
  pub each : (k : ℕ) → k < length copies
      → slice_get copies k ≡ Some (moment setup events (k * every))
  pub moments : length copies * every ≤ length events + every
  pub all : length events < length copies * every

-- The invariant of a trail: its records lead back from the end to the start and are exact, and its
-- state is that of the position.
pub record Keeps (setup : Setup) (events : List Event) (records : List (List Change)) (at : ℕ) (state : Machine) (walked : ℕ) : Type 0 where
  pub linked : Linked (start setup) events records (run (start setup) events)
  pub recorded : Recorded (start setup) events records
  pub within : at ≤ length events
  pub here : state ≡ moment setup events at
  pub most : length events ≤ 1048576
  pub counted : walked < 2 ^ 64
