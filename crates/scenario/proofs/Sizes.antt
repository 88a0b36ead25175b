-- The maximum size of a ring.
use Rattle.std.proofs.Common.{◌≡◌, ℕ, Bool, true, false, cond, refl, List, [], ◌∷◌, ◌≤◌, arith}
use Rattle.std.specs.Prelude.{◌&&◌}
use Rattle.std.specs.List.{list_all}
use Rattle.std.proofs.Math.Dec.{leb, ltb}
use Rattle.std.proofs.lemmas.Bool.Decides.{nat_tests}
use Rattle.ring_words.specs.Rings.{rounded, first_not_below, sizes}

first_most : (n : ℕ) (xs : List ℕ) → list_all (λ x. leb x 8192) xs ≡ true → first_not_below n xs ≤ 8192
first_most n [] h = omega arith
first_most n (x ∷ xs) h = by (ltb x n) (leb x 8192) refl h (λ k. first_most n xs k)
  where
    by : (b c : Bool) → leb x 8192 ≡ c → (c && list_all (λ y. leb y 8192) xs) ≡ true → (list_all (λ y. leb y 8192) xs ≡ true → first_not_below n xs ≤ 8192) → cond b (first_not_below n xs) x ≤ 8192
    by b false e k f = absurd cc
    by true true e k f = f k
    by false true e k f = grind (arith, nat_tests)

pub rounded_most : (n : ℕ) → rounded n ≤ 8192
unfolding rounded
rounded_most n = first_most n sizes refl
