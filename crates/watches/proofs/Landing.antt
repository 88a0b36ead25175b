-- Lemmas for the loops that search for a stop, and where the walker is when they end.
use Rattle.std.proofs.Common.{◌≡◌, ℕ, ◌+◌, ◌-◌, ◌<◌, ◌≤◌, ◌⊎◌, inl, inr, List, length, sym, ap, ◌∙◌, subst, arith}
use Rattle.std.specs.Prelude.{Option, Some, None}
use Rattle.std.proofs.lemmas.Bool.{cases_lt}
use Rattle.places.specs.declared.place.Place.{Place}
use Rattle.places.specs.declared.value.Value.{Value}
use Rattle.places.specs.declared.value.Change.{Change as Noted}
use Rattle.places.specs.View.{Exact, named}
use Rattle.machine.specs.declared.whole.Machine.{Machine}
use Rattle.machine.specs.Whole.{view}
use Rattle.machine.specs.Runs.{start, moment}
use Rattle.inverse_log.specs.Walks.{Walk, ending}
use Rattle.inverse_log.proofs.Runs.{run_all}
use Rattle.watches.specs.Watchpoints.{Stops}
use Rattle.watches.specs.declared.stopping.Stop.{Stop}
use Rattle.watches.specs.declared.stopping.Stop.TheVariants.{Change, Met, Start, End}
use Rattle.watches.specs.Stops.{seen, Unchanged, Unmet, Quiet, IsStop, IsLater}

-- ---- Backwards

-- What holds from m on up to `top`, and at m - 1, holds from m - 1 on.
pub still_more : (P : ℕ → Type 0) (m top : ℕ) → 0 < m → ((k : ℕ) → m ≤ k → k < top → P k) → P (m - 1) → (k : ℕ) → m - 1 ≤ k → k < top → P k
still_more P m top some h p k a b = by (cases_lt k m)
  where
    by : (k < m) ⊎ (m ≤ k) → P k
    by (inl c) = let e : m - 1 ≡ k = omega arith in subst P e p
    by (inr c) = h k c b

-- ---- Forwards

-- A quiet range is extended by one event that does not stop.
pub quiet_more : (w : Walk) (ws : Stops) (from to : ℕ) → Quiet w ws from to → Unchanged w ws.watchpoints to × Unmet w ws.breakpoints to → Quiet w ws from (to + 1)
quiet_more w ws from to q h k a b = by (cases_lt k to)
  where
    by : (k < to) ⊎ (to ≤ k) → Unchanged w ws.watchpoints k × Unmet w ws.breakpoints k
    by (inl c) = q k a c
    by (inr c) =
        let e : to ≡ k = omega arith in
        subst (λ (n : ℕ). Unchanged w ws.watchpoints n × Unmet w ws.breakpoints n) e h

-- The first event that stops after a quiet range is the stop.
pub stops_there : (w : Walk) (ws : Stops) (at : ℕ) (s : Stop) → w.at ≤ at → at < length w.events → IsStop w ws at (Some s) → Quiet w ws w.at at → IsLater w ws s
stops_there w ws at s low high h q = by s h
  where
    n : at ≡ at + 1 - 1
    n = omega arith

    quiet : Quiet w ws w.at (at + 1 - 1)
    quiet = subst (Quiet w ws w.at) n q

    by : (t : Stop) → IsStop w ws at (Some t) → IsLater w ws t
    by (Change m) k =
        subst (λ (i : ℕ). IsLater w ws (Change i)) (sym k.0)
        (omega arith, omega arith, subst (λ (i : ℕ). Unchanged w ws.watchpoints i → ⊥) n k.1, quiet)
    by (Met m) k =
        subst (λ (i : ℕ). IsLater w ws (Met i)) (sym k.0)
        (omega arith, omega arith, subst (Unchanged w ws.watchpoints) n k.1, subst (λ (i : ℕ). Unmet w ws.breakpoints i → ⊥) n k.2, quiet)
    by Start k = absurd k
    by End k = absurd k

-- ---- Values in records

-- What no record names from moment m to moment n has the same value at both.
pub value_on : (w : Walk) (p : Place) (m n : ℕ) (r : List Noted) → seen w m p ≡ seen w n p → Exact (seen w n) (seen w (n + 1)) r → named r p ≡ None → seen w m p ≡ seen w (n + 1) p
value_on w p m n r h x e = h ∙ x.same p e

-- The old value in the first record from moment m on that names the place is its value at m.
pub value_found : (w : Walk) (p : Place) (m n : ℕ) (r : List Noted) (o : Option Value) → seen w m p ≡ seen w n p → Exact (seen w n) (seen w (n + 1)) r → named r p ≡ Some o → o ≡ seen w m p
value_found w p m n r o h x e = (x.differs p o e).0 ∙ sym h

-- What no record names from moment m on has its value of the end.
pub value_last : (w : Walk) (p : Place) (m n : ℕ) (s : Machine) (o : Option Value) → seen w m p ≡ seen w n p → n ≡ length w.events → s ≡ ending w → o ≡ view s p → o ≡ seen w m p
value_last w p m n s o h last e g =
    let end : moment w.setup w.events n ≡ ending w = run_all (start w.setup) w.events n last in
    g ∙ ap (λ (x : Machine). view x p) (e ∙ sym end) ∙ sym h
