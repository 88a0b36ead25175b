-- The undo record of each event of a run is exact.
use Rattle.std.proofs.Common.{◌≡◌, ℕ, zero, suc, ◌+◌, ◌<◌, List, [], ◌∷◌, length, take, get_or, refl, sym, ap, subst, arith, add-one}
use Rattle.places.specs.declared.value.Change.{Change}
use Rattle.places.specs.View.{Exact}
use Rattle.machine.specs.declared.whole.Machine.{Machine}
use Rattle.scenario.specs.declared.event.Event.{Event}
use Rattle.machine.specs.Whole.{view}
use Rattle.machine.specs.Steps.{after}
use Rattle.machine.specs.Runs.{run}
use Rattle.inverse_log.specs.Tracks.{Recorded}

length_recorded : (s : Machine) (es : List Event) (rs : List (List Change)) → Recorded s es rs → length rs ≡ length es
length_recorded s [] [] h = refl
length_recorded s [] (r ∷ rs) h = absurd h
length_recorded s (e ∷ es) [] h = absurd h
length_recorded s (e ∷ es) (r ∷ rs) h = ap suc (length_recorded (after s e) es rs h.1)

-- Each event has a record.
pub record_there : (s : Machine) (es : List Event) (rs : List (List Change)) (i : ℕ) → Recorded s es rs → i < length es → i < length rs
record_there s es rs i h b = let e = length_recorded s es rs h in omega arith

exact_at : (s : Machine) (es : List Event) (rs : List (List Change)) (i : ℕ) (r : List Change) → Recorded s es rs → i < length es → r ≡ get_or rs i r → Exact (view (run s (take i es))) (view (run s (take (suc i) es))) r
exact_at s [] rs i r l h g = absurd (omega arith)
exact_at s (e ∷ es) [] i r l h g = absurd l
exact_at s (e ∷ es) (x ∷ rs) zero r l h g = subst (Exact (view s) (view (after s e))) (sym g) l.0
exact_at s (e ∷ es) (x ∷ rs) (suc i) r l h g = exact_at (after s e) es rs i r l.1 (omega arith) g

-- The record of event i is exact for the states before and after it.
pub exact_record : (s : Machine) (es : List Event) (rs : List (List Change)) (i : ℕ) (r : List Change) → Recorded s es rs → i < length es → r ≡ get_or rs i r → Exact (view (run s (take i es))) (view (run s (take (i + 1) es))) r
exact_record s es rs i r l h g = rw add-one (exact_at s es rs i r l h g)
