-- The values at the first moment of a range: at the start of a run, and after one event.
use Rattle.timeline_values.proofs.Common.{◌≡◌, ℕ, ◌+◌, List, length, min, subst, arith, Event, Setup, Machine, view, start, moment, IsAt, Values, AreValues, HasOpened}

-- At the start.
pub opened_at_start : (s : Setup) (es : List Event) (m : Machine) (at : ℕ) (x : Values) → m ≡ start s → AreValues s (view m) x.values.items x.regions.items → HasOpened s es 0 at x
opened_at_start s es m at x h values = λ l.
    let none : 0 ≡ min at (length es) = omega (arith, l) in
    subst (λ n. AreValues s (view (moment s es n)) x.values.items x.regions.items) none (subst (λ n. AreValues s (view n) x.values.items x.regions.items) h values)

-- After the event that leads to the moment.
pub opened_here : (s : Setup) (es : List Event) (i at : ℕ) (n : Machine) (x : Values) → IsAt s es (i + 1) n → i + 1 ≡ min at (length es) → AreValues s (view n) x.values.items x.regions.items → HasOpened s es (i + 1) at x
opened_here s es i at n x a e values l =
    subst (λ j. AreValues s (view (moment s es j)) x.values.items x.regions.items) e (subst (λ m. AreValues s (view m) x.values.items x.regions.items) a.here values)

-- After any other event.
pub opened_before : (s : Setup) (es : List Event) (i at : ℕ) (x : Values) → HasOpened s es i at x → (i + 1 ≡ min at (length es) → ⊥) → HasOpened s es (i + 1) at x
opened_before s es i at x h apart l = h (omega (arith, l, apart))
