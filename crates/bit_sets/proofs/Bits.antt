-- Lemmas about single bits of words and about sets as lists of words.
use Rattle.std.proofs.Common.{◌≡◌, ℕ, zero, suc, ◌*◌, ◌/◌, ◌%◌, ◌^◌, ◌<◌, ◌≤◌, Bool, true, false, not, cond, ◌==◌, ◌||◌, eqb, List, [], ◌∷◌, ◌++◌, length, get_or, set, replicate, refl, sym, ap, ◌∙◌, inl, inr, arith, bit_and, bit_or, w64}
use Rattle.std.specs.Int.{bit_at}
use Rattle.std.specs.List.{list_any}
use Rattle.std.proofs.lemmas.Bool.{cases_eq, cases_lt, eqb-true, eq-eqb, ne_eqb}
use Rattle.std.proofs.lemmas.Bool.Decides.{nat_tests}
use Rattle.std.proofs.lemmas.List.{get_or-set_same, get_or-set_other, get_or_past, get_or_append_left, get_or-append_right, get_or-replicate, length-replicate}
use Rattle.std.proofs.lemmas.Nat.{one_shl, pow_pos}
use Rattle.std.proofs.lemmas.Nat.Bits.{bit_at-zero, bit_at-lt, and_pow, bit_at_set_same, bit_at_set_other}
use Rattle.bit_sets.specs.Sets.{has}

-- ---- One word

-- `word & (1 << bit) != 0` tests the bit.
pub tested_bit : (word bit : ℕ) → bit < 64 → not (eqb (bit_and word (1 * 2 ^ bit % 2 ^ 64)) 0) ≡ (bit_at word bit == 1)
tested_bit word bit h = grind (arith, nat_tests, one_shl bit 64 h, and_pow word bit, pow_pos bit, bit_at-lt word bit)

-- `word | (1 << bit)` sets that bit and no other.
pub bit_set : (word bit b : ℕ) (member : Bool) → bit < 64 → member ≡ true → (bit_at (bit_or word (1 * 2 ^ bit % 2 ^ 64)) b == 1) ≡ cond (b == bit) member (bit_at word b == 1)
bit_set word bit b member h m = elim (cases_eq b bit) [
  | inl same ↦ rw (same, bit_at_set_same w64 word bit h, eq-eqb bit bit refl) (sym m)
  | inr other ↦ rw (bit_at_set_other w64 word bit h b other, ne_eqb b bit other) refl
]

-- ---- Lists of words

pub has_is : (words : List ℕ) (k : ℕ) → (bit_at (get_or words (k / 64) 0) (k % 64) == 1) ≡ has words k
unfolding has
has_is words k = refl

pub has_past : (words : List ℕ) (k : ℕ) → 64 * length words ≤ k → has words k ≡ false
unfolding has
has_past words k h = let e : get_or words (k / 64) 0 ≡ 0 = get_or_past words (k / 64) 0 (omega arith) in rw (e, bit_at-zero (k % 64)) refl

-- A number whose word is 0 is not in the set.
pub none_in_zero : (words : List ℕ) (k : ℕ) → get_or words (k / 64) 0 ≡ 0 → has words k ≡ false
unfolding has
none_in_zero words k e = rw (e, bit_at-zero (k % 64)) refl

-- Changing one bit of one word adds or removes the number of that bit only.
pub has_written : (words : List ℕ) (k word : ℕ) (member : Bool) → k < 64 * length words
    → ((b : ℕ) → b < 64 → (bit_at word b == 1) ≡ cond (b == k % 64) member (bit_at (get_or words (k / 64) 0) b == 1))
    → (i : ℕ) → has (set words (k / 64) word) i ≡ cond (i == k) member (has words i)
unfolding has
has_written words k word member within bits i = elim (cases_eq (i / 64) (k / 64)) [
  | inl same ↦
      let here : get_or (set words (k / 64) word) (k / 64) 0 ≡ word = get_or-set_same words (k / 64) word 0 (omega arith) in
      let tests : (i % 64 == k % 64) ≡ (i == k) = grind (arith, nat_tests) in
      rw (same, here, bits (i % 64) (omega arith), tests) refl
  | inr other ↦
      let there : get_or (set words (k / 64) word) (i / 64) 0 ≡ get_or words (i / 64) 0 = get_or-set_other words (k / 64) (i / 64) word 0 other in
      let differ : (i == k) ≡ false = ne_eqb i k (λ e. other (ap (λ n. n / 64) e)) in
      rw (there, differ) refl
]

-- Appending zero words changes no word.
pub grown_word : (words zeros : List ℕ) (w : ℕ) → ((v : ℕ) → get_or zeros v 0 ≡ 0) → get_or (words ++ zeros) w 0 ≡ get_or words w 0
grown_word words zeros w none = elim (cases_lt w (length words)) [
  | inl inside ↦ get_or_append_left words zeros 0 w inside
  | inr past ↦ get_or-append_right words zeros (length words) w 0 refl past ∙ none _ ∙ sym (get_or_past words w 0 past)
]

pub has_grown : (words zeros : List ℕ) (k : ℕ) → ((w : ℕ) → get_or zeros w 0 ≡ 0) → has (words ++ zeros) k ≡ has words k
unfolding has
has_grown words zeros k none = rw (grown_word words zeros (k / 64) none) refl

pub no_bits : (n x w : ℕ) → x ≡ 0 → get_or (replicate n x) w 0 ≡ 0
no_bits n x w e = elim (cases_lt w n) [
  | inl inside ↦ get_or-replicate n w x 0 inside ∙ e
  | inr past ↦ get_or_past (replicate n x) w 0 (omega (arith, length-replicate n x))
]

-- If no word is nonzero, each word is 0.
no_word : (words : List ℕ) (w : ℕ) → list_any (λ n. not (n == 0)) words ≡ false → get_or words w 0 ≡ 0
no_word [] w h = refl
no_word (n ∷ ns) w h = by (n == 0) refl h w (λ v k. no_word ns v k)
  where
    by : (t : Bool) → (n == 0) ≡ t → (not t || list_any (λ m. not (m == 0)) ns) ≡ false → (v : ℕ) → ((u : ℕ) → list_any (λ m. not (m == 0)) ns ≡ false → get_or ns u 0 ≡ 0) → get_or (n ∷ ns) v 0 ≡ 0
    by true e k zero again = eqb-true n 0 e
    by true e k (suc v) again = again v k
    by false e k v again = absurd cc

pub no_words : (words : List ℕ) (k : ℕ) → list_any (λ n. not (n == 0)) words ≡ false → has words k ≡ false
no_words words k h = none_in_zero words k (no_word words (k / 64) h)

not_not : (b : Bool) → b ≡ not (not b)
not_not true = refl
not_not false = refl

pub not_cond : (t x : Bool) → not (cond t true x) ≡ cond t false (not x)
not_cond true x = refl
not_cond false x = refl

-- `word & (1 << bit) == 0` tests that a number is absent.
pub lacks_bit : (words : List ℕ) (k : ℕ) → eqb (bit_and (get_or words (k / 64) 0) (1 * 2 ^ (k % 64) % 2 ^ 64)) 0 ≡ not (has words k)
lacks_bit words k = not_not _ ∙ ap not (tested_bit (get_or words (k / 64) 0) (k % 64) (omega arith) ∙ has_is words k)
