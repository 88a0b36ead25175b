-- Lemmas for `next_in_difference`: the numbers in one set and not in another, by the bits of
-- their words.
use Rattle.std.proofs.Common.{◌≡◌, ℕ, ◌+◌, ◌*◌, ◌/◌, ◌%◌, ◌^◌, ◌<◌, ◌≤◌, true, false, not, ◌==◌, List, length, get_or, refl, sym, ap, ◌∙◌, subst, inl, inr, arith, bit_and, w64}
use Rattle.std.specs.Prelude.{◌&&◌, ◌-◌, min}
use Rattle.std.specs.Int.{bit_at, bit_not}
use Rattle.std.proofs.lemmas.Bool.{cases_lt, eq-eqb, and_left}
use Rattle.std.proofs.lemmas.Bool.Decides.{nat_tests}
use Rattle.std.proofs.lemmas.Nat.Bits.{bit_at_and, bit_at_not, bit_at-lt}
use Rattle.bit_sets.specs.Sets.{has, IsNext, IsNextBit}
use Rattle.bit_sets.specs.Difference.{in_difference, IsNextInDifference}
use Rattle.bit_sets.proofs.Bits.{has_is, has_past}

-- The combined word w: the bits that the first set has there and the other one does not.
abbrev difference_word : List ℕ → List ℕ → ℕ → ℕ
difference_word words others w = bit_and (get_or words w 0) (bit_not w64 (get_or others w 0))

-- Bit k of `a` is set and bit k of `b` is not exactly if bit k of `a & !b` is set.
bit_of_difference : (a b k : ℕ) → b < 2 ^ 64 → k < 64 → ((bit_at a k == 1) && not (bit_at b k == 1)) ≡ (bit_at (bit_and a (bit_not w64 b)) k == 1)
bit_of_difference a b k fits h = rw (bit_at_and a (bit_not w64 b) k, bit_at_not w64 b k fits h) (by (bit_at a k) (bit_at b k) (bit_at-lt a k) (bit_at-lt b k))
  where
    by : (x y : ℕ) → x < 2 → y < 2 → ((x == 1) && not (y == 1)) ≡ (min x (1 - y) == 1)
    by x y l m = grind (arith, nat_tests)

difference_is : (words others : List ℕ) (i : ℕ) → get_or others (i / 64) 0 < 2 ^ 64 → in_difference words others i ≡ (bit_at (difference_word words others (i / 64)) (i % 64) == 1)
difference_is words others i fits =
    ap (λ b. b && not (has others i)) (sym (has_is words i)) ∙ ap (λ b. (bit_at (get_or words (i / 64) 0) (i % 64) == 1) && not b) (sym (has_is others i))
    ∙ bit_of_difference (get_or words (i / 64) 0) (get_or others (i / 64) 0) (i % 64) fits (omega arith)

-- If the bit of number i is 0 in its combined word, i is not in the first set only.
in_word : (words others : List ℕ) (w i : ℕ) → get_or others w 0 < 2 ^ 64 → i / 64 ≡ w → bit_at (difference_word words others w) (i % 64) ≡ 0 → in_difference words others i ≡ false
in_word words others w i fits word zero = difference_is words others i (subst (λ (n : ℕ). get_or others n 0 < 2 ^ 64) (sym word) fits) ∙ rw (word, zero) refl

pub has_below : (words : List ℕ) (k : ℕ) → has words k ≡ true → k < 64 * length words
has_below words k h = elim (cases_lt k (64 * length words)) [
  | inl inside ↦ inside
  | inr past ↦ absurd (let e = has_past words k past in cc)
]

-- If there is none below `at`, there is none below k, the first set's next number from `at` on.
before_next : (words others : List ℕ) (from at k : ℕ) → ((i : ℕ) → from ≤ i → i < at → in_difference words others i ≡ false) → IsNext words at k → (i : ℕ) → from ≤ i → i < k → in_difference words others i ≡ false
before_next words others from at k before next i low high = elim (cases_lt i at) [
  | inl earlier ↦ before i low earlier
  | inr later ↦ and_left _ _ (next.least i later high)
]

-- A bit found in the combined word of k is the least number in the first set only.
pub difference_here : (words others : List ℕ) (from at k bit : ℕ) → get_or others (k / 64) 0 < 2 ^ 64 → from ≤ at → ((i : ℕ) → from ≤ i → i < at → in_difference words others i ≡ false)
    → IsNext words at k → IsNextBit (difference_word words others (k / 64)) (k % 64) bit → IsNextInDifference words others from (k / 64 * 64 + bit)
difference_here words others from at k bit fits start before next found =
    let inside = found.within in
    let word : (k / 64 * 64 + bit) / 64 ≡ k / 64 = omega arith in
    let place : (k / 64 * 64 + bit) % 64 ≡ bit = omega arith in
    record {
      after = omega (arith, next.after, found.after);
      member = difference_is words others (k / 64 * 64 + bit) (subst (λ (n : ℕ). get_or others n 0 < 2 ^ 64) (sym word) fits) ∙ rw (word, place) (eq-eqb _ 1 found.set);
      least = λ i low high. elim (cases_lt i k) [
        | inl earlier ↦ before_next words others from at k before next i low earlier
        | inr later ↦ in_word words others (k / 64) i fits (omega arith) (found.least (i % 64) (omega arith) (omega arith))
      ];
    }

-- If the combined word of k has no bit, there is no number up to the end of that word.
pub difference_past : (words others : List ℕ) (from at k : ℕ) → get_or others (k / 64) 0 < 2 ^ 64 → ((i : ℕ) → from ≤ i → i < at → in_difference words others i ≡ false)
    → IsNext words at k → ((b : ℕ) → k % 64 ≤ b → bit_at (difference_word words others (k / 64)) b ≡ 0) → (i : ℕ) → from ≤ i → i < k / 64 * 64 + 64 → in_difference words others i ≡ false
difference_past words others from at k fits before next none i low high = elim (cases_lt i k) [
  | inl earlier ↦ before_next words others from at k before next i low earlier
  | inr later ↦ in_word words others (k / 64) i fits (omega arith) (none (i % 64) (omega arith))
]
