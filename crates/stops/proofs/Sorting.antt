-- Moments in ascending order are determined by how often each occurs.
use Rattle.std.proofs.Common.{◌≡◌, ℕ, suc, ◌+◌, ◌<◌, ◌≤◌, inl, inr, List, [], ◌∷◌, Bool, true, false, cond, refl, sym, ap, ◌∙◌, arith}
use Rattle.std.specs.Prelude.{nat_le, ◌==◌}
use Rattle.std.specs.List.{AllByRecursion}
use Rattle.std.specs.List.Sorted.{IsNonDecreasing, IsPermutation}
use Rattle.std.proofs.lemmas.Bool.{cases_lt}
use Rattle.std.proofs.lemmas.Bool.Decides.{nat_tests}
use Rattle.std.proofs.lemmas.List.Elements.{recursion_from_All}
use Rattle.std.proofs.lemmas.List.Recursion.{is_sum_by}
use Rattle.std.proofs.lemmas.List.Sorted.{sum_by-IsPermutation}
use Rattle.stops.specs.Nearest.{inserted, sorted}

-- Each moment is at most the later ones.
abbrev pub Rises : List ℕ → Type 0
Rises [] = Unit {0}
Rises (m ∷ ms) = AllByRecursion (λ k. m ≤ k) ms × Rises ms

abbrev count : ℕ → List ℕ → ℕ
count k [] = 0
count k (m ∷ ms) = cond (m == k) 1 0 + count k ms

pub rises : (ms : List ℕ) → IsNonDecreasing ms → Rises ms
rises [] h = tt
rises (m ∷ ms) h = (
  recursion_from_All (λ k. m ≤ k) ms (λ k d b. h 0 (suc k) d (omega arith) (omega arith)),
  rises ms (λ i j d a b. h (suc i) (suc j) d (omega arith) (omega arith)),
)

-- ---- Insertion

from_first : (x m : ℕ) (ns : List ℕ) → x ≤ m → AllByRecursion (λ k. x ≤ k) ns → AllByRecursion (λ k. x ≤ k) (inserted m ns)
from_first x m [] a h = (a, tt)
from_first x m (n ∷ ns) a h = by (nat_le m n) (from_first x m ns a h.1)
  where
    by : (b : Bool) → AllByRecursion (λ k. x ≤ k) (inserted m ns) → AllByRecursion (λ k. x ≤ k) (cond b (m ∷ n ∷ ns) (n ∷ inserted m ns))
    by true r = (a, h)
    by false r = (h.0, r)

pub further : (x y : ℕ) (ns : List ℕ) → x ≤ y → AllByRecursion (λ k. y ≤ k) ns → AllByRecursion (λ k. x ≤ k) ns
further x y [] a h = tt
further x y (n ∷ ns) a h = (let b : y ≤ n = h.0 in omega arith, further x y ns a h.1)

rises_inserted : (m : ℕ) (ns : List ℕ) → Rises ns → Rises (inserted m ns)
rises_inserted m [] h = (tt, tt)
rises_inserted m (n ∷ ns) h = by (nat_le m n) refl (rises_inserted m ns h.1)
  where
    by : (b : Bool) → nat_le m n ≡ b → Rises (inserted m ns) → Rises (cond b (m ∷ n ∷ ns) (n ∷ inserted m ns))
    by true e r = let a : m ≤ n = grind (arith, nat_tests) in ((a, further m n ns a h.0), h)
    by false e r = let a : n ≤ m = grind (arith, nat_tests) in (from_first n m ns a h.0, r)

count_inserted : (k m : ℕ) (ns : List ℕ) → count k (inserted m ns) ≡ cond {A = ℕ} (m == k) 1 0 + count k ns
count_inserted k m [] = refl
count_inserted k m (n ∷ ns) = by (nat_le m n) (count_inserted k m ns)
  where
    by : (b : Bool) → count k (inserted m ns) ≡ cond {A = ℕ} (m == k) 1 0 + count k ns → count k (cond b (m ∷ n ∷ ns) (n ∷ inserted m ns)) ≡ cond {A = ℕ} (m == k) 1 0 + (cond {A = ℕ} (n == k) 1 0 + count k ns)
    by true e = refl
    by false e = omega arith

rises_sorted : (ms : List ℕ) → Rises (sorted ms)
rises_sorted [] = tt
rises_sorted (m ∷ ms) = rises_inserted m (sorted ms) (rises_sorted ms)

count_sorted : (k : ℕ) (ms : List ℕ) → count k (sorted ms) ≡ count k ms
count_sorted k [] = refl
count_sorted k (m ∷ ms) = count_inserted k m (sorted ms) ∙ ap (λ n. cond (m == k) 1 0 + n) (count_sorted k ms)

-- ---- Uniqueness

none_of : (k m : ℕ) (ms : List ℕ) → k < m → AllByRecursion (λ n. m ≤ n) ms → count k ms ≡ 0
none_of k m [] a h = refl
none_of k m (n ∷ ns) a h =
    let b : m ≤ n = h.0 in
    let e = none_of k m ns a h.1 in
    let f : (n == k) ≡ false = grind (arith, nat_tests) in
    rw f (omega arith)

one_of : (m : ℕ) (ms : List ℕ) → count m (m ∷ ms) ≡ suc (count m ms)
one_of m ms = let f : (m == m) ≡ true = grind (arith, nat_tests) in rw f (omega arith)

same_counts : (xs ys : List ℕ) → Rises xs → Rises ys → ((k : ℕ) → count k xs ≡ count k ys) → xs ≡ ys
same_counts [] [] a b h = refl
same_counts [] (y ∷ ys) a b h = let e = h y in let f = one_of y ys in absurd (omega arith)
same_counts (x ∷ xs) [] a b h = let e = h x in let f = one_of x xs in absurd (omega arith)
same_counts (x ∷ xs) (y ∷ ys) a b h =
    ap (λ n. n ∷ xs) first ∙ ap (λ ns. y ∷ ns) (same_counts xs ys a.1 b.1 (λ k. rest k))
  where
    first : x ≡ y
    first = elim (cases_lt x y) as (λ _. x ≡ y) [
      | inl c ↦ absurd (let e = h x in let f = one_of x xs in let g = none_of x y (y ∷ ys) c (omega arith, b.0) in omega arith)
      | inr c ↦ elim (cases_lt y x) as (λ _. x ≡ y) [
        | inl d ↦ absurd (let e = h y in let f = one_of y ys in let g = none_of y x (x ∷ xs) d (omega arith, a.0) in omega arith)
        | inr d ↦ omega arith
      ]
    ]

    rest : (k : ℕ) → count k xs ≡ count k ys
    rest k =
        let e : cond {A = ℕ} (x == k) 1 0 + count k xs ≡ cond {A = ℕ} (y == k) 1 0 + count k ys = h k in
        let f : cond {A = ℕ} (x == k) 1 0 ≡ cond {A = ℕ} (y == k) 1 0 = ap (λ (n : ℕ). cond {A = ℕ} (n == k) 1 0) first in
        omega arith

count_permuted : (k : ℕ) (xs ys : List ℕ) → IsPermutation xs ys → count k ys ≡ count k xs
count_permuted k xs ys h =
    is_sum_by (count k) (λ m. cond (m == k) 1 0) refl (λ _ _. refl) ys
    ∙ sum_by-IsPermutation (λ m. cond (m == k) 1 0) xs ys h
    ∙ sym (is_sum_by (count k) (λ m. cond (m == k) 1 0) refl (λ _ _. refl) xs)

-- What a sort leaves.
pub sorted_is : (xs ys : List ℕ) → IsPermutation xs ys → IsNonDecreasing ys → ys ≡ sorted xs
sorted_is xs ys p h =
    same_counts ys (sorted xs) (rises ys h) (rises_sorted xs) (λ k. count_permuted k xs ys p ∙ sym (count_sorted k xs))
