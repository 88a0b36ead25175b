-- The nearest moments of a range that pass a test.
use Rattle.std.proofs.Common.{◌≡◌, ℕ, zero, suc, ◌+◌, ◌<◌, ◌≤◌, inl, inr, max, List, [], ◌∷◌, Bool, true, false, cond, ◌&&◌, refl, sym, ap, ◌∙◌, arith}
use Rattle.std.specs.Prelude.{Some, filter}
use Rattle.std.specs.List.{AllByRecursion, range_with_len}
use Rattle.std.proofs.lemmas.Bool.{cases_lt}
use Rattle.stops.specs.Nearest.{least, greatest}
use Rattle.stops.proofs.Extremes.{least_first}

if_both : (b : Bool) (m : ℕ) (xs ys : List ℕ) → xs ≡ ys → cond b (m ∷ xs) xs ≡ cond (b && true) (m ∷ ys) ys
if_both true m xs ys h = ap (λ l. m ∷ l) h
if_both false m xs ys h = h

if_one : (b : Bool) (m : ℕ) (xs ys : List ℕ) → xs ≡ ys → xs ≡ cond (b && false) (m ∷ ys) ys
if_one true m xs ys h = h
if_one false m xs ys h = h

pub filter_both : (p q : ℕ → Bool) (ms : List ℕ) → filter q (filter p ms) ≡ filter (λ m. q m && p m) ms
filter_both p q [] = refl
filter_both p q (m ∷ ms) = by (p m) (filter_both p q ms)
  where
    by : (a : Bool) → filter q (filter p ms) ≡ filter (λ m. q m && p m) ms → filter q (cond a (m ∷ filter p ms) (filter p ms)) ≡ cond (q m && a) (m ∷ filter (λ m. q m && p m) ms) (filter (λ m. q m && p m) ms)
    by true h = if_both (q m) m _ _ h
    by false h = if_one (q m) m _ _ h

from_on : (q : ℕ → Bool) (x a n : ℕ) → x ≤ a → AllByRecursion (λ k. x ≤ k) (filter q (range_with_len a n))
from_on q x a zero h = tt
from_on q x a (suc n) h = by (q a) (from_on q x (a + 1) n (omega arith))
  where
    by : (b : Bool) → AllByRecursion (λ k. x ≤ k) (filter q (range_with_len (a + 1) n)) → AllByRecursion (λ k. x ≤ k) (cond b (a ∷ filter q (range_with_len (a + 1) n)) (filter q (range_with_len (a + 1) n)))
    by true r = (h, r)
    by false r = r

-- None of a range passes.
pub none_pass : (q : ℕ → Bool) (a n : ℕ) → ((k : ℕ) → a ≤ k → k < a + n → q k ≡ false) → filter q (range_with_len a n) ≡ []
none_pass q a zero h = refl
none_pass q a (suc n) h = rw (h a (omega arith) (omega arith)) (none_pass q (a + 1) n (λ k x y. h k (omega arith) (omega arith)))

-- The first that passes is the least.
pub first_pass : (q : ℕ → Bool) (a n m : ℕ) → a ≤ m → m < a + n → q m ≡ true → ((k : ℕ) → a ≤ k → k < m → q k ≡ false) → least (filter q (range_with_len a n)) ≡ Some m
first_pass q a zero m b c h g = absurd (omega arith)
first_pass q a (suc n) m b c h g = elim (cases_lt a m) as (λ _. least (filter q (range_with_len a (suc n))) ≡ Some m) [
  | inl d ↦ rw (g a (omega arith) d) (first_pass q (a + 1) n m (omega arith) (omega arith) h (λ k x y. g k (omega arith) y))
  | inr d ↦
      let e : m ≡ a = omega arith in
      let t : q a ≡ true = ap q (sym e) ∙ h in
      rw t (least_first a (filter q (range_with_len (a + 1) n)) (from_on q a (a + 1) n (omega arith)) ∙ ap Some (sym e))
]

-- The last that passes is the greatest.
pub last_pass : (q : ℕ → Bool) (a n m : ℕ) → a ≤ m → m < a + n → q m ≡ true → ((k : ℕ) → m < k → k < a + n → q k ≡ false) → greatest (filter q (range_with_len a n)) ≡ Some m
last_pass q a zero m b c h g = absurd (omega arith)
last_pass q a (suc n) m b c h g = elim (cases_lt a m) as (λ _. greatest (filter q (range_with_len a (suc n))) ≡ Some m) [
  | inl d ↦ by (q a) (last_pass q (a + 1) n m (omega arith) (omega arith) h (λ k x y. g k x (omega arith)))
  | inr d ↦
      let e : m ≡ a = omega arith in
      let t : q a ≡ true = ap q (sym e) ∙ h in
      rw (t, none_pass q (a + 1) n (λ k x y. g k (omega arith) (omega arith))) (ap Some (sym e))
]
  where
    by : (b : Bool) → greatest (filter q (range_with_len (a + 1) n)) ≡ Some m → greatest (cond b (a ∷ filter q (range_with_len (a + 1) n)) (filter q (range_with_len (a + 1) n))) ≡ Some m
    by true e = rw e (let f : max a m ≡ m = omega arith in ap Some f)
    by false e = e
