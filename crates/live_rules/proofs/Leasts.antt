-- Lemmas on searches for the first number that passes and for the least value.
use Rattle.std.proofs.Common.{◌≡◌, ℕ, zero, suc, ◌+◌, ◌-◌, ◌<◌, ◌≤◌, Bool, true, false, Option, Some, None, refl, ap, ◌∙◌, inl, inr, arith, add-one, if◌then◌else◌}
use Rattle.std.proofs.lemmas.Bool.{cases_lt}
use Rattle.live_rules.specs.Least.{least, or_else, least_value, smaller_of}
use Rattle.live_rules.specs.Passing.{IsNextRow}

-- ---- The first number that passes

or_none : (o : Option ℕ) → or_else o None ≡ o
or_none None = refl
or_none (Some n) = refl

least_skip : (f : ℕ → Bool) (n d m : ℕ) → m ≡ d + n → ((k : ℕ) → n ≤ k → k < m → f k ≡ false) → least f m ≡ least f n
least_skip f n zero m is none = let e : m ≡ n = omega (arith, is) in ap (λ k. least f k) e
least_skip f n (suc d) m is none =
    let e : m ≡ suc (d + n) = omega (arith, is) in
    ap (λ k. least f k) e ∙ ap (λ (b : Bool). or_else (least f (d + n)) (if b then Some (d + n) else None)) (none (d + n) (omega arith) (omega (arith, e)))
    ∙ or_none (least f (d + n)) ∙ least_skip f n d (d + n) refl (λ k low high. none k low (omega (arith, high, e)))

-- Numbers that don't pass don't change the result.
pub least_same : (f : ℕ → Bool) (n m : ℕ) → n ≤ m → ((k : ℕ) → n ≤ k → k < m → f k ≡ false) → least f m ≡ least f n
least_same f n m h none = least_skip f n (m - n) m (omega arith) none

-- The result so far, or the next number that may pass.
pub least_next : (f : ℕ → Bool) (from r : ℕ) → from ≤ r → ((k : ℕ) → from ≤ k → k < r → f k ≡ false) → least f (r + 1) ≡ or_else (least f from) (if f r then Some r else None)
least_next f from r h none = ap (λ k. least f k) (add-one r) ∙ ap (λ o. or_else o (if f r then Some r else None)) (least_same f from r h none)

pub least_none : (f : ℕ → Bool) (n : ℕ) → ((k : ℕ) → k < n → f k ≡ false) → least f n ≡ None
least_none f n h = least_same f 0 n (omega arith) (λ k low high. h k high)

-- What is found below a number is found below each larger one.
least_more : (f : ℕ → Bool) (n d r : ℕ) → least f n ≡ Some r → (m : ℕ) → m ≡ d + n → least f m ≡ Some r
least_more f n zero r h m is = let e : m ≡ n = omega (arith, is) in ap (λ k. least f k) e ∙ h
least_more f n (suc d) r h m is =
    let e : m ≡ suc (d + n) = omega (arith, is) in
    ap (λ k. least f k) e ∙ ap (λ o. or_else o (if f (d + n) then Some (d + n) else None)) (least_more f n d r h (d + n) refl)

least_here : (f : ℕ → Bool) (r : ℕ) → f r ≡ true → ((k : ℕ) → k < r → f k ≡ false) → least f (suc r) ≡ Some r
least_here f r is before =
    ap (λ o. or_else o (if f r then Some r else None)) (least_none f r before) ∙ ap (λ (b : Bool). if b then Some r else None) is

pub least_some : (f : ℕ → Bool) (n r : ℕ) → r < n → f r ≡ true → ((k : ℕ) → k < r → f k ≡ false) → least f n ≡ Some r
least_some f n r h is before = least_more f (suc r) (n - suc r) r (least_here f r is before) n (omega arith)

-- If none has passed so far, none passes before the next candidate.
pub before_next : (f : ℕ → Bool) (n from r : ℕ) → ((k : ℕ) → k < from → f k ≡ false) → IsNextRow f n from r → (k : ℕ) → k < r → f k ≡ false
before_next f n from r so_far next k h = elim (cases_lt k from) [
  | inl earlier ↦ so_far k earlier
  | inr later ↦ next.least k later h
]

-- Nor does the candidate, if it fails the test.
pub past_next : (f : ℕ → Bool) (n from r : ℕ) → ((k : ℕ) → k < from → f k ≡ false) → IsNextRow f n from r → f r ≡ false → (k : ℕ) → k < r + 1 → f k ≡ false
past_next f n from r so_far next here k h = elim (cases_lt k r) [
  | inl earlier ↦ before_next f n from r so_far next k earlier
  | inr last ↦ let e : k ≡ r = omega arith in ap f e ∙ here
]

pub none_left : (f : ℕ → Bool) (from : ℕ) → ((k : ℕ) → k < from → f k ≡ false) → ((k : ℕ) → from ≤ k → f k ≡ false) → (k : ℕ) → f k ≡ false
none_left f from so_far rest k = elim (cases_lt k from) [
  | inl earlier ↦ so_far k earlier
  | inr later ↦ rest k later
]

-- ---- The least value

smaller_of_none : (o : Option ℕ) → smaller_of o None ≡ o
smaller_of_none None = refl
smaller_of_none (Some a) = refl

least_value_skip : (f : ℕ → Option ℕ) (n d m : ℕ) → m ≡ d + n → ((k : ℕ) → n ≤ k → k < m → f k ≡ None) → least_value f m ≡ least_value f n
least_value_skip f n zero m is none = let e : m ≡ n = omega (arith, is) in ap (λ k. least_value f k) e
least_value_skip f n (suc d) m is none =
    let e : m ≡ suc (d + n) = omega (arith, is) in
    ap (λ k. least_value f k) e ∙ ap (λ o. smaller_of (least_value f (d + n)) o) (none (d + n) (omega arith) (omega (arith, e)))
    ∙ smaller_of_none (least_value f (d + n)) ∙ least_value_skip f n d (d + n) refl (λ k low high. none k low (omega (arith, high, e)))

-- Numbers without a value don't change the result.
pub least_value_same : (f : ℕ → Option ℕ) (n m : ℕ) → n ≤ m → ((k : ℕ) → n ≤ k → k < m → f k ≡ None) → least_value f m ≡ least_value f n
least_value_same f n m h none = least_value_skip f n (m - n) m (omega arith) none

-- The minimum of the result so far and the value of the next number that may have one.
pub least_value_next : (f : ℕ → Option ℕ) (from r : ℕ) → from ≤ r → ((k : ℕ) → from ≤ k → k < r → f k ≡ None) → least_value f (r + 1) ≡ smaller_of (least_value f from) (f r)
least_value_next f from r h none = ap (λ k. least_value f k) (add-one r) ∙ ap (λ o. smaller_of o (f r)) (least_value_same f from r h none)
