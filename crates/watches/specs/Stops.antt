-- Where `cont` and `rcont` stop, defined by the states before and after each event.
use Rattle.std.specs.Prelude.{◌≡◌, ℕ, zero, suc, ◌+◌, ◌-◌, ◌<◌, ◌≤◌, List, [], ◌∷◌, length, Bool, not, ◌&&◌, if◌then◌else◌, is_some, Option, Some, None, unwrap_or}
use Rattle.std.specs.List.{list_any, range_with_len}
use Rattle.places.specs.declared.place.Place.{Place}
use Rattle.places.specs.declared.value.Change.{Change as Noted}
use Rattle.places.specs.View.{View, named}
use Rattle.places.specs.Sameness.{is_same}
use Rattle.machine.specs.Whole.{view}
use Rattle.machine.specs.Runs.{moment}
use Rattle.inverse_log.specs.Walks.{Walk}
use Rattle.watches.specs.declared.watched.Break.{Break}
use Rattle.watches.specs.declared.stopping.Stop.{Stop}
use Rattle.watches.specs.declared.stopping.Stop.TheVariants.{Change, Met, Start, End}
use Rattle.watches.specs.Watchpoints.{Stops}

-- Whether a record names a place.
abbrev pub names : List Noted → Place → Bool
names cs p = is_some (named cs p)

-- The values of all places at moment m.
abbrev pub seen : Walk → ℕ → View
seen w m = view (moment w.setup w.events m)

-- ---- Computing the stop

-- Whether the value of one of the places changes.
abbrev pub changes : View → View → List Place → Bool
changes old new ps = list_any (λ p. not (is_same (old p) (new p))) ps

-- Whether a place takes the value of one of its breaks, which it did not have before.
abbrev pub meets : View → View → List Break → Bool
meets old new bs =
    list_any
    (λ b. is_same (new b.place) (Some b.value) && not (is_same (old b.place) (Some b.value))) bs

-- The stop of a walk back at moment m: the event after m changes one of the places.
abbrev pub stop_before : Walk → List Place → ℕ → Option Stop
stop_before w ps m = if changes (seen w m) (seen w (m + 1)) ps then Some (Change m) else None

-- The stop of a walk forward at moment m: the event before m changes a watched
-- place, or else meets a break.
abbrev pub stop_after : Walk → Stops → ℕ → Option Stop
stop_after w v m =
    if changes (seen w (m - 1)) (seen w m) v.watchpoints then Some (Change m)
    else if meets (seen w (m - 1)) (seen w m) v.breakpoints then Some (Met m)
    else None

-- The first stop among some moments, or else the given one.
abbrev pub first_stop : (ℕ → Option Stop) → Stop → List ℕ → Stop
first_stop f otherwise [] = otherwise
first_stop f otherwise (m ∷ ms) = unwrap_or (f m) (first_stop f otherwise ms)

-- The moments below m, downwards.
abbrev pub moments_before : ℕ → List ℕ
moments_before zero = []
moments_before (suc m) = m ∷ moments_before m

-- Where `rcont` stops.
unfoldable pub reverse_stop : Walk → List Place → Stop
reverse_stop w ps = first_stop (stop_before w ps) Start (moments_before w.at)

-- Where `cont` stops.
unfoldable pub forward_stop : Walk → Stops → Stop
forward_stop w v =
    first_stop (stop_after w v) End (range_with_len (w.at + 1) (length w.events - w.at))

-- ---- What the stop means

-- None of the places changes its value.
abbrev pub Stays : View → View → List Place → Type 0
Stays old new [] = Unit {0}
Stays old new (p ∷ ps) = (old p ≡ new p) × Stays old new ps

-- No break is met: no place takes the value of one of its breaks unless it had it before.
abbrev pub NoneMet : View → View → List Break → Type 0
NoneMet old new [] = Unit {0}
NoneMet old new (b ∷ bs) =
    (new b.place ≡ Some b.value → old b.place ≡ Some b.value) × NoneMet old new bs

-- The event after moment m changes none of the places.
abbrev pub Unchanged : Walk → List Place → ℕ → Type 0
Unchanged w ps m = Stays (seen w m) (seen w (m + 1)) ps

-- The event after moment m meets none of the breaks.
abbrev pub Unmet : Walk → List Break → ℕ → Type 0
Unmet w bs m = NoneMet (seen w m) (seen w (m + 1)) bs

-- The meaning of `rcont`: the greatest moment below the position whose next event changes one of
-- the places, or the start if there is none.
abbrev pub IsEarlier : Walk → List Place → Stop → Type 0
IsEarlier w ps (Change m) =
    (m < w.at) × (Unchanged w ps m → ⊥) × ((k : ℕ) → m < k → k < w.at → Unchanged w ps k)
IsEarlier w ps Start = (k : ℕ) → k < w.at → Unchanged w ps k
IsEarlier w ps (Met m) = ⊥
IsEarlier w ps End = ⊥

-- No event from moment `from` to moment `to` stops a walk forward.
abbrev pub Quiet : Walk → Stops → ℕ → ℕ → Type 0
Quiet w v from to =
    (k : ℕ) → from ≤ k → k < to → Unchanged w v.watchpoints k × Unmet w v.breakpoints k

-- The meaning of `cont`: the least moment above the position whose previous event changed a watched
-- place or else met a break, or the end if there is none.
abbrev pub IsLater : Walk → Stops → Stop → Type 0
IsLater w v (Change m) =
    (w.at < m) × (m ≤ length w.events) × (Unchanged w v.watchpoints (m - 1) → ⊥)
    × Quiet w v w.at (m - 1)
IsLater w v (Met m) =
    (w.at < m) × (m ≤ length w.events) × Unchanged w v.watchpoints (m - 1)
    × (Unmet w v.breakpoints (m - 1) → ⊥) × Quiet w v w.at (m - 1)
IsLater w v End = Quiet w v w.at (length w.events)
IsLater w v Start = ⊥

-- The stop of the event after moment k, if it stops a walk forward.
abbrev pub IsStop : Walk → Stops → ℕ → Option Stop → Type 0
IsStop w v k None = Unchanged w v.watchpoints k × Unmet w v.breakpoints k
IsStop w v k (Some (Change m)) = (m ≡ k + 1) × (Unchanged w v.watchpoints k → ⊥)
IsStop w v k (Some (Met m)) =
    (m ≡ k + 1) × Unchanged w v.watchpoints k × (Unmet w v.breakpoints k → ⊥)
IsStop w v k (Some Start) = ⊥
IsStop w v k (Some End) = ⊥

-- The moment at which a stop leaves the walker.
abbrev pub position_of : Walk → Stop → ℕ
position_of w (Change m) = m
position_of w (Met m) = m
position_of w Start = 0
position_of w End = length w.events
