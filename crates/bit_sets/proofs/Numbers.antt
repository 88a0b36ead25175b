-- Lemmas for finding the next number of a set by its words and their summary.
use Rattle.std.proofs.Common.{◌≡◌, ℕ, ◌+◌, ◌*◌, ◌/◌, ◌%◌, ◌<◌, ◌≤◌, true, false, not, cond, ◌==◌, List, [], ◌∷◌, ◌++◌, length, get_or, set, replicate, take, refl, sym, ap, ◌∙◌, inl, inr, arith}
use Rattle.std.specs.Prelude.{Option, Some, None, IfSome, IfNone}
use Rattle.std.specs.Int.{bit_at}
use Rattle.std.proofs.lemmas.Bool.{cases_eq, cases_lt, not-false, not-true, eqb-true, eqb-false, eq-eqb, ne_eqb}
use Rattle.std.proofs.lemmas.List.{get_or-set_same, get_or-set_other, get_or-take, length-take-le, get_or_past, get_or-replicate, length-replicate, length-set}
use Rattle.std.proofs.lemmas.Nat.Bits.{bit_at-zero, same_from_bits}
use Rattle.bit_sets.proofs.Bits.{has_past, none_in_zero, no_bits, has_grown as words_grown}
use Rattle.bit_sets.specs.Sets.{has, IsNextBit, IsNext, NoneFrom, Summed}

-- ---- One number

has_in : (words : List ℕ) (w b : ℕ) → b < 64 → has words (w * 64 + b) ≡ (bit_at (get_or words w 0) b == 1)
unfolding has
has_in words w b h =
    let word : (w * 64 + b) / 64 ≡ w = omega arith in
    let bit : (w * 64 + b) % 64 ≡ b = omega arith in
    rw (word, bit) refl

-- ---- Growing the list of words

pub has_grown : (words : List ℕ) (k : ℕ) → has (words ++ 0 ∷ []) k ≡ has words k
has_grown words k = words_grown words (0 ∷ []) k (λ w. no_bits 1 0 w refl)

-- ---- The summary

zero_word : (n w x : ℕ) → x ≡ 0 → get_or (replicate n x) w 0 ≡ 0
zero_word n w x e = elim (cases_lt w n) [
  | inl inside ↦ get_or-replicate n w x 0 inside ∙ e
  | inr past ↦ get_or_past (replicate n x) w 0 (omega (arith, length-replicate n x))
]

-- The summary of an empty set is all zeros.
pub summed_none : (x : ℕ) → x ≡ 0 → Summed [] (replicate 16 x)
summed_none x e = record { few = omega arith; short = length-replicate 16 x; sums = λ w. none_in_zero (replicate 16 x) w (zero_word 16 (w / 64) x e) }

pub summed_written : (words summary after : List ℕ) (at word : ℕ) → Summed words summary → at < length words → length after ≡ length summary
    → ((w : ℕ) → has after w ≡ cond (w == at) (not (word == 0)) (has summary w)) → Summed (set words at word) after
summed_written words summary after at word s within l h = record {
  few = omega (arith, length-set words at word, s.few);
  short = l ∙ s.short;
  sums = λ w. elim (cases_eq w at) [
    | inl same ↦ h w ∙ rw (same, eq-eqb at at refl, get_or-set_same words at word 0 within) refl
    | inr other ↦ h w ∙ rw (ne_eqb w at other, get_or-set_other words at w word 0 other) (s.sums w)
  ];
}

-- ---- The next number

-- If a word has no bit from b on, the set has no number there.
none_in_word : (words : List ℕ) (w b : ℕ) → ((i : ℕ) → b ≤ i → bit_at (get_or words w 0) i ≡ 0) → (i : ℕ) → w * 64 + b ≤ i → i < w * 64 + 64 → has words i ≡ false
unfolding has
none_in_word words w b none i low high =
    let word : i / 64 ≡ w = omega arith in
    rw (word, none (i % 64) (omega arith)) refl

before_bit : (words : List ℕ) (w b k i : ℕ) → IsNextBit (get_or words w 0) b k → w * 64 + b ≤ i → i < w * 64 + k → has words i ≡ false
unfolding has
before_bit words w b k i next low high =
    let inside = next.within in
    let word : i / 64 ≡ w = omega arith in
    rw (word, next.least (i % 64) (omega arith) (omega arith)) refl

pub next_in_word : (words : List ℕ) (w from b k : ℕ) → IsNextBit (get_or words w 0) b k → from ≤ w * 64 + b
    → ((i : ℕ) → from ≤ i → i < w * 64 + b → has words i ≡ false) → IsNext words from (w * 64 + k)
next_in_word words w from b k next start before = record {
  after = omega (arith, next.after);
  member = has_in words w k next.within ∙ eq-eqb _ 1 next.set;
  least = λ i low high. elim (cases_lt i (w * 64 + b)) [
    | inl earlier ↦ before i low earlier
    | inr later ↦ before_bit words w b k i next later high
  ];
}

-- No number from `from` on up to word `at`, if neither the word of `from` nor the
-- words after it have one.
pub none_further : (words : List ℕ) (from at : ℕ) → ((b : ℕ) → from % 64 ≤ b → bit_at (get_or words (from / 64) 0) b ≡ 0)
    → ((i : ℕ) → (from / 64 + 1) * 64 ≤ i → i < at * 64 → has words i ≡ false) → (i : ℕ) → from ≤ i → i < at * 64 → has words i ≡ false
none_further words from at none more i low high = elim (cases_lt i ((from / 64 + 1) * 64)) [
  | inl here ↦ none_in_word words (from / 64) (from % 64) none i (omega arith) (omega arith)
  | inr later ↦ more i later high
]

-- Extends such a range by one more word without bits.
pub none_more : (words : List ℕ) (from at : ℕ) → ((b : ℕ) → 0 ≤ b → bit_at (get_or words at 0) b ≡ 0) → ((i : ℕ) → from ≤ i → i < at * 64 → has words i ≡ false)
    → (i : ℕ) → from ≤ i → i < (at + 1) * 64 → has words i ≡ false
none_more words from at none before i low high = elim (cases_lt i (at * 64)) [
  | inl earlier ↦ before i low earlier
  | inr later ↦ none_in_word words at 0 none i (omega arith) (omega arith)
]

-- Words whose summary bit is 0 have no number.
skipped : (words summary : List ℕ) (a b : ℕ) → Summed words summary → ((w : ℕ) → a ≤ w → w < b → has summary w ≡ false) → (i : ℕ) → a * 64 ≤ i → i < b * 64 → has words i ≡ false
skipped words summary a b s none i low high =
    none_in_zero words i (eqb-true _ 0 (not-false _ (sym (s.sums (i / 64)) ∙ none (i / 64) (omega arith) (omega arith))))

pub none_by_summary : (words summary : List ℕ) (from : ℕ) → Summed words summary → ((b : ℕ) → from % 64 ≤ b → bit_at (get_or words (from / 64) 0) b ≡ 0)
    → NoneFrom summary (from / 64 + 1) → NoneFrom words from
none_by_summary words summary from s first none i low =
    none_further words from (i + 1) first (skipped words summary (from / 64 + 1) (i + 1) s (λ w l h. none w l)) i low (omega arith)

pub next_by_summary : (words summary : List ℕ) (from at bit : ℕ) → Summed words summary → ((b : ℕ) → from % 64 ≤ b → bit_at (get_or words (from / 64) 0) b ≡ 0)
    → IsNext summary (from / 64 + 1) at → IsNextBit (get_or words at 0) 0 bit → IsNext words from (at * 64 + bit)
next_by_summary words summary from at bit s first word next =
    next_in_word words at from 0 bit next (omega (arith, word.after))
    (λ i low high. none_further words from at first (skipped words summary (from / 64 + 1) at s word.least) i low (omega arith))

-- A word whose summary bit is set is within the list.
pub word_there : (words summary : List ℕ) (w : ℕ) → Summed words summary → has summary w ≡ true → w < length words
word_there words summary w s member = elim (cases_lt w (length words)) [
  | inl inside ↦ inside
  | inr past ↦ absurd (eqb-false (get_or words w 0) 0 (not-true _ (sym (s.sums w) ∙ member)) (get_or_past words w 0 past))
]

pub word_not_zero : (words summary : List ℕ) (w : ℕ) → Summed words summary → has summary w ≡ true → ((b : ℕ) → 0 ≤ b → bit_at (get_or words w 0) b ≡ 0) → ⊥
word_not_zero words summary w s member none =
    eqb-false (get_or words w 0) 0 (not-true _ (sym (s.sums w) ∙ member))
    (same_from_bits (get_or words w 0) 0 (λ b. none b (omega arith) ∙ sym (bit_at-zero b)))

-- There is no word past the end.
pub no_word : (words summary : List ℕ) (w : ℕ) → Summed words summary → length words ≤ w → has summary w ≡ false
no_word words summary w s past = s.sums w ∙ ap (λ n. not (n == 0)) (get_or_past words w 0 past)

-- ---- The first words of a set

pub has_first : (words : List ℕ) (n i : ℕ) → i < 64 * n → has (take n words) i ≡ has words i
unfolding has
has_first words n i less = ap (λ w. bit_at w (i % 64) == 1) (get_or-take n words (i / 64) 0 (omega (arith, less)))

pub has_rest : (words : List ℕ) (n i : ℕ) → n ≤ length words → 64 * n ≤ i → has (take n words) i ≡ false
has_rest words n i within past = has_past (take n words) i (let l = length-take-le n words within in omega (arith, l, past))

pub next_first : (words : List ℕ) (n from k : ℕ) → n ≤ length words → IsNext (take n words) from k → IsNext words from k
next_first words n from k within next = elim (cases_lt k (64 * n)) [
  | inl less ↦ record {
    after = next.after;
    member = sym (has_first words n k less) ∙ next.member;
    least = λ i low high. sym (has_first words n i (omega (arith, high, less))) ∙ next.least i low high;
  }
  | inr past ↦ absurd (let e = sym (has_rest words n k within past) ∙ next.member in cc)
]

pub none_first : (words : List ℕ) (n from : ℕ) → ((i : ℕ) → 64 * n ≤ i → has words i ≡ false) → NoneFrom (take n words) from → NoneFrom words from
none_first words n from past none i low = elim (cases_lt i (64 * n)) [
  | inl less ↦ sym (has_first words n i less) ∙ none i low
  | inr more ↦ past i more
]

pub found_first : (words : List ℕ) (n from : ℕ) (o : Option ℕ) → n ≤ length words → ((i : ℕ) → 64 * n ≤ i → has words i ≡ false) → IfSome o (λ k. IsNext (take n words) from k) → IfNone o (NoneFrom (take n words) from)
    → IfSome o (λ k. IsNext words from k) × IfNone o (NoneFrom words from)
found_first words n from (Some k) within past some none = (next_first words n from k within some, none)
found_first words n from None within past some none = (some, none_first words n from past none)
