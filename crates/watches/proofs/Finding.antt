-- The stop that the code finds is the first one in the search order of the definitions.
use Rattle.std.proofs.Common.{◌≡◌, ℕ, zero, suc, ◌+◌, ◌-◌, ◌<◌, ◌≤◌, inl, inr, List, [], ◌∷◌, length, not, ◌&&◌, ◌||◌, Bool, true, false, refl, sym, ap, ◌∙◌, subst, arith}
use Rattle.std.specs.Prelude.{Option, Some, None, unwrap_or}
use Rattle.std.specs.List.{range_with_len}
use Rattle.std.proofs.lemmas.Bool.{cases_lt}
use Rattle.places.specs.declared.place.Place.{Place}
use Rattle.places.specs.View.{View}
use Rattle.inverse_log.specs.Walks.{Walk}
use Rattle.watches.specs.declared.watched.Break.{Break}
use Rattle.watches.specs.declared.stopping.Stop.{Stop}
use Rattle.watches.specs.declared.stopping.Stop.TheVariants.{Change, Met, Start, End}
use Rattle.watches.specs.Watchpoints.{Stops}
use Rattle.watches.specs.Stops.{seen, changes, meets, stop_before, stop_after, first_stop, moments_before, reverse_stop, forward_stop, Stays, NoneMet, Unchanged, Unmet, Quiet, IsEarlier, IsLater}
use Rattle.places.specs.Sameness.{is_same}
use Rattle.places.proofs.SameValue.{same_decides}

-- ---- Comparing two views

something_of : (b : Bool) → (b ≡ false → ⊥) → b ≡ true
something_of true h = refl
something_of false h = absurd (h refl)

differs_first : (a b : Bool) → (not a || b) ≡ false → (a ≡ true) × (b ≡ false)
differs_first true b h = (refl, h)
differs_first false b h = absurd (cc)

meets_first : (a b c : Bool) → ((a && not b) || c) ≡ false → (a ≡ true → b ≡ true) × (c ≡ false)
meets_first true true c h = (λ k. refl, h)
meets_first true false c h = absurd (cc)
meets_first false b c h = (λ k. absurd (cc), h)

meets_none : (a b c : Bool) → (a ≡ true → b ≡ true) → c ≡ false → ((a && not b) || c) ≡ false
meets_none true b c f h = rw (f refl) h
meets_none false b c f h = h

-- If every place stays the same, `changes` is false.
pub unchanged : (old new : View) (ps : List Place) → Stays old new ps → changes old new ps ≡ false
unchanged old new [] h = refl
unchanged old new (p ∷ ps) h = rw ((same_decides (old p) (new p)).1 h.0) (unchanged old new ps h.1)

stays : (old new : View) (ps : List Place) → changes old new ps ≡ false → Stays old new ps
stays old new [] h = tt
stays old new (p ∷ ps) h =
    let parts = differs_first (is_same (old p) (new p)) (changes old new ps) h in
    ((same_decides (old p) (new p)).0 parts.0, stays old new ps parts.1)

-- If not every place stays the same, `changes` is true.
pub changed : (old new : View) (ps : List Place) → (Stays old new ps → ⊥) → changes old new ps ≡ true
changed old new ps h = something_of (changes old new ps) (λ e. h (stays old new ps e))

-- If no break is met, `meets` is false.
pub unmet : (old new : View) (bs : List Break) → NoneMet old new bs → meets old new bs ≡ false
unmet old new [] h = refl
unmet old new (b ∷ bs) h =
    meets_none (is_same (new b.place) (Some b.value)) (is_same (old b.place) (Some b.value)) (meets old new bs)
    (λ e. (same_decides (old b.place) (Some b.value)).1 (h.0 ((same_decides (new b.place) (Some b.value)).0 e)))
    (unmet old new bs h.1)

none_met : (old new : View) (bs : List Break) → meets old new bs ≡ false → NoneMet old new bs
none_met old new [] h = tt
none_met old new (b ∷ bs) h =
    let parts = meets_first (is_same (new b.place) (Some b.value)) (is_same (old b.place) (Some b.value)) (meets old new bs) h in
    ((λ e. (same_decides (old b.place) (Some b.value)).0 (parts.0 ((same_decides (new b.place) (Some b.value)).1 e))), none_met old new bs parts.1)

-- If some break is met, `meets` is true.
pub met : (old new : View) (bs : List Break) → (NoneMet old new bs → ⊥) → meets old new bs ≡ true
met old new bs h = something_of (meets old new bs) (λ e. h (none_met old new bs e))

-- ---- The first stop in a list of moments

taken : (f : ℕ → Option Stop) (otherwise s : Stop) (m : ℕ) (ms : List ℕ) → f m ≡ Some s → first_stop f otherwise (m ∷ ms) ≡ s
taken f otherwise s m ms h = ap (λ o. unwrap_or o (first_stop f otherwise ms)) h

passed : (f : ℕ → Option Stop) (otherwise : Stop) (m : ℕ) (ms : List ℕ) → f m ≡ None → first_stop f otherwise (m ∷ ms) ≡ first_stop f otherwise ms
passed f otherwise m ms h = ap (λ o. unwrap_or o (first_stop f otherwise ms)) h

-- Searching the moments before n downwards finds the latest one that stops.
latest : (f : ℕ → Option Stop) (otherwise s : Stop) (n m : ℕ) → m < n → f m ≡ Some s → ((k : ℕ) → m < k → k < n → f k ≡ None) → first_stop f otherwise (moments_before n) ≡ s
latest f otherwise s zero m b h q = absurd (omega arith)
latest f otherwise s (suc n) m b h q = elim (cases_lt m n) as (λ _. first_stop f otherwise (moments_before (suc n)) ≡ s) [
  | inl c ↦ passed f otherwise n (moments_before n) (q n c (omega arith)) ∙ latest f otherwise s n m c h (λ k x y. q k x (omega arith))
  | inr c ↦ let e : m ≡ n = omega arith in taken f otherwise s n (moments_before n) (subst (λ (i : ℕ). f i ≡ Some s) e h)
]

none_before : (f : ℕ → Option Stop) (otherwise : Stop) (n : ℕ) → ((k : ℕ) → k < n → f k ≡ None) → first_stop f otherwise (moments_before n) ≡ otherwise
none_before f otherwise zero q = refl
none_before f otherwise (suc n) q = passed f otherwise n (moments_before n) (q n (omega arith)) ∙ none_before f otherwise n (λ k x. q k (omega arith))

-- Searching n moments from a upwards finds the earliest one that stops.
soonest : (f : ℕ → Option Stop) (otherwise s : Stop) (a n m : ℕ) → a ≤ m → m < a + n → f m ≡ Some s → ((k : ℕ) → a ≤ k → k < m → f k ≡ None) → first_stop f otherwise (range_with_len a n) ≡ s
soonest f otherwise s a zero m b c h q = absurd (omega arith)
soonest f otherwise s a (suc n) m b c h q = elim (cases_lt a m) as (λ _. first_stop f otherwise (range_with_len a (suc n)) ≡ s) [
  | inl d ↦ passed f otherwise a (range_with_len (a + 1) n) (q a (omega arith) d) ∙ soonest f otherwise s (a + 1) n m (omega arith) (omega arith) h (λ k x y. q k (omega arith) y)
  | inr d ↦ let e : m ≡ a = omega arith in taken f otherwise s a (range_with_len (a + 1) n) (subst (λ (i : ℕ). f i ≡ Some s) e h)
]

none_among : (f : ℕ → Option Stop) (otherwise : Stop) (a n : ℕ) → ((k : ℕ) → a ≤ k → k < a + n → f k ≡ None) → first_stop f otherwise (range_with_len a n) ≡ otherwise
none_among f otherwise a zero q = refl
none_among f otherwise a (suc n) q = passed f otherwise a (range_with_len (a + 1) n) (q a (omega arith) (omega arith)) ∙ none_among f otherwise (a + 1) n (λ k x y. q k (omega arith) (omega arith))

-- ---- Backwards

passes_by : (w : Walk) (ps : List Place) (k : ℕ) → Unchanged w ps k → stop_before w ps k ≡ None
passes_by w ps k h = rw (unchanged (seen w k) (seen w (k + 1)) ps h) refl

stops_before : (w : Walk) (ps : List Place) (m : ℕ) → (Unchanged w ps m → ⊥) → stop_before w ps m ≡ Some (Change m)
stops_before w ps m h = rw (changed (seen w m) (seen w (m + 1)) ps h) refl

-- A stop that satisfies `IsEarlier` is `reverse_stop`.
pub the_earlier : (w : Walk) (ps : List Place) (s : Stop) → IsEarlier w ps s → s ≡ reverse_stop w ps
unfolding reverse_stop
the_earlier w ps (Change m) h = sym (latest (stop_before w ps) Start (Change m) w.at m h.0 (stops_before w ps m h.1) (λ k x y. passes_by w ps k (h.2 k x y)))
the_earlier w ps Start h = sym (none_before (stop_before w ps) Start w.at (λ k x. passes_by w ps k (h k x)))
the_earlier w ps (Met m) h = absurd h
the_earlier w ps End h = absurd h

-- ---- Forwards

quiet_within : (w : Walk) (v : Stops) (from to k : ℕ) → Quiet w v from to → from < k → k ≤ to → stop_after w v k ≡ None
quiet_within w v from to k q a b =
    let e : k - 1 + 1 ≡ k = omega arith in
    let h = q (k - 1) (omega arith) (omega arith) in
    let still : changes (seen w (k - 1)) (seen w k) v.watchpoints ≡ false = unchanged (seen w (k - 1)) (seen w k) v.watchpoints (subst (λ (i : ℕ). Stays (seen w (k - 1)) (seen w i) v.watchpoints) e h.0) in
    let none : meets (seen w (k - 1)) (seen w k) v.breakpoints ≡ false = unmet (seen w (k - 1)) (seen w k) v.breakpoints (subst (λ (i : ℕ). NoneMet (seen w (k - 1)) (seen w i) v.breakpoints) e h.1) in
    rw (still, none) refl

changes_after : (w : Walk) (v : Stops) (m : ℕ) → 0 < m → (Unchanged w v.watchpoints (m - 1) → ⊥) → stop_after w v m ≡ Some (Change m)
changes_after w v m some h =
    let e : m - 1 + 1 ≡ m = omega arith in
    let there : changes (seen w (m - 1)) (seen w m) v.watchpoints ≡ true = changed (seen w (m - 1)) (seen w m) v.watchpoints (λ s. h (subst (λ (i : ℕ). Stays (seen w (m - 1)) (seen w i) v.watchpoints) (sym e) s)) in
    rw there refl

meets_after : (w : Walk) (v : Stops) (m : ℕ) → 0 < m → Unchanged w v.watchpoints (m - 1) → (Unmet w v.breakpoints (m - 1) → ⊥) → stop_after w v m ≡ Some (Met m)
meets_after w v m some s h =
    let e : m - 1 + 1 ≡ m = omega arith in
    let still : changes (seen w (m - 1)) (seen w m) v.watchpoints ≡ false = unchanged (seen w (m - 1)) (seen w m) v.watchpoints (subst (λ (i : ℕ). Stays (seen w (m - 1)) (seen w i) v.watchpoints) e s) in
    let there : meets (seen w (m - 1)) (seen w m) v.breakpoints ≡ true = met (seen w (m - 1)) (seen w m) v.breakpoints (λ n. h (subst (λ (i : ℕ). NoneMet (seen w (m - 1)) (seen w i) v.breakpoints) (sym e) n)) in
    rw (still, there) refl

-- A stop that satisfies `IsLater` is `forward_stop`.
pub the_later : (w : Walk) (v : Stops) (s : Stop) → IsLater w v s → s ≡ forward_stop w v
unfolding forward_stop
the_later w v (Change m) h = sym (soonest (stop_after w v) End (Change m) (w.at + 1) (length w.events - w.at) m (omega arith) (omega (arith, h.0, h.1)) (changes_after w v m (omega (arith, h.0)) h.2) (λ k x y. quiet_within w v w.at (m - 1) k h.3 (omega arith) (omega arith)))
the_later w v (Met m) h = sym (soonest (stop_after w v) End (Met m) (w.at + 1) (length w.events - w.at) m (omega arith) (omega (arith, h.0, h.1)) (meets_after w v m (omega (arith, h.0)) h.2 h.3) (λ k x y. quiet_within w v w.at (m - 1) k h.4 (omega arith) (omega arith)))
the_later w v End h = sym (none_among (stop_after w v) End (w.at + 1) (length w.events - w.at) (λ k x y. quiet_within w v w.at (length w.events) k h (omega arith) (omega arith)))
the_later w v Start h = absurd h
