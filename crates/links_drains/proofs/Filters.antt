-- Filtering a list from its beginning.
use Rattle.links_drains.proofs.Common.{◌≡◌, ℕ, zero, suc, Bool, true, false, cond, refl, ◌∙◌, ap, List, [], ◌∷◌, take, ◌<◌, ◌≤◌, arith, Some, option_map, slice_get, filter, enumerate_from, Row}
use Rattle.links_drains.proofs.{Chains.enumerated, RestOfUnit.none_before, RestOfUnit.numbered}

-- ---- Lists

filter_none : {X : Type 0} (p : X → Bool) (xs : List X) → ((i : ℕ) (x : X) → slice_get xs i ≡ Some x → p x ≡ false) → filter p xs ≡ []
filter_none p [] h = refl
filter_none p (x ∷ xs) h = ap (λ b. cond b (x ∷ filter p xs) (filter p xs)) (h 0 x refl) ∙ filter_none p xs (λ i y e. h (suc i) y e)

filter_first : {X : Type 0} (p : X → Bool) (xs : List X) (k : ℕ) (x : X) → slice_get xs k ≡ Some x → p x ≡ true → ((i : ℕ) (y : X) → i < k → slice_get xs i ≡ Some y → p y ≡ false) → slice_get (filter p xs) 0 ≡ Some x
filter_first p [] k x h t none = absurd cc
filter_first p (y ∷ ys) zero x h t none = let e : y ≡ x = cc in ap (λ b. slice_get (cond b (y ∷ filter p ys) (filter p ys)) 0) (ap p e ∙ t) ∙ ap Some e
filter_first p (y ∷ ys) (suc k) x h t none = ap (λ b. slice_get (cond b (y ∷ filter p ys) (filter p ys)) 0) (none 0 y (omega arith) refl) ∙ filter_first p ys k x h t (λ i z l e. none (suc i) z (omega (arith, l)) e)

-- Items that fail the test are skipped.
pub filter_skip : {X : Type 0} (p : X → Bool) (k n : ℕ) (xs : List X) → k ≤ n → ((i : ℕ) (x : X) → k ≤ i → i < n → slice_get xs i ≡ Some x → p x ≡ false) → filter p (take n xs) ≡ filter p (take k xs)
filter_skip p zero n xs l h = none_before p n xs (λ i x less e. h i x (omega arith) less e)
filter_skip p (suc k) zero xs l h = absurd (omega (arith, l))
filter_skip p (suc k) (suc n) [] l h = refl
filter_skip p (suc k) (suc n) (x ∷ xs) l h = ap (λ ys. cond (p x) (x ∷ ys) ys) (filter_skip p k n xs (omega (arith, l)) (λ i y low high e. h (suc i) y (omega (arith, low)) (omega (arith, high)) e))

-- ---- Numbered rows

pub first_numbered : (test : ℕ × Row → Bool) (rows : List Row) (r : ℕ) (row : Row) → slice_get rows r ≡ Some row → test (r, row) ≡ true
    → ((i : ℕ) (x : Row) → i < r → slice_get rows i ≡ Some x → test (i, x) ≡ false) → slice_get (filter test (enumerate_from 0 rows)) 0 ≡ Some (r, row)
first_numbered test rows r row h t none = filter_first test (enumerate_from 0 rows) r (r, row) (enumerated rows r ∙ ap (option_map (λ (y : Row). (r, y))) h) t (λ i p l e. numbered test rows i p (λ x g. none i x l g) e)

pub none_numbered : (test : ℕ × Row → Bool) (rows : List Row) → ((i : ℕ) (x : Row) → slice_get rows i ≡ Some x → test (i, x) ≡ false) → filter test (enumerate_from 0 rows) ≡ []
none_numbered test rows none = filter_none test (enumerate_from 0 rows) (λ i p e. numbered test rows i p (λ x g. none i x g) e)
