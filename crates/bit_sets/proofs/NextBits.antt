-- Lemmas for clearing a bit of a word and for finding its next bit.
use Rattle.std.proofs.Common.{◌≡◌, ℕ, ◌-◌, ◌*◌, ◌%◌, ◌^◌, ◌<◌, ◌≤◌, Bool, false, cond, ◌==◌, refl, sym, ap, ◌∙◌, inl, inr, arith, bit_and, w64}
use Rattle.std.specs.Int.{bit_at, bit_not, trailing_zeros}
use Rattle.std.proofs.lemmas.Bool.{cases_eq, cases_lt, eq-eqb, ne_eqb}
use Rattle.std.proofs.lemmas.Nat.{and_le_l}
use Rattle.std.proofs.lemmas.Nat.Bits.{bit_at_and, bit_at-zero, bit_at-lt, ones_shl, bit_at_mask_inside, bit_at_mask_below, bit_at_above, bit_at-trailing_zeros, bit_at_clear_same, bit_at_clear_other}
use Rattle.bit_sets.specs.Sets.{IsNextBit}

-- `word & !(1 << bit)` clears that bit and no other.
pub bit_cleared : (word bit b : ℕ) (member : Bool) → bit < 64 → b < 64 → member ≡ false → (bit_at (bit_and word (bit_not w64 (1 * 2 ^ bit % 2 ^ 64))) b == 1) ≡ cond (b == bit) member (bit_at word b == 1)
bit_cleared word bit b member h k m = elim (cases_eq b bit) [
  | inl same ↦ rw (same, bit_at_clear_same w64 word bit h, eq-eqb bit bit refl) (sym m)
  | inr other ↦ rw (bit_at_clear_other w64 word bit h b k other, ne_eqb b bit other) refl
]

-- The word with its bits below `from` cleared.

abbrev from_bit : ℕ → ℕ → ℕ
from_bit word from = bit_and word ((2 ^ 64 - 1) * 2 ^ from % 2 ^ 64)

above : (word from b : ℕ) → from < 64 → from ≤ b → b < 64 → bit_at (from_bit word from) b ≡ bit_at word b
above word from b h low high =
    rw (ones_shl 64 from (omega arith), bit_at_and word (2 ^ 64 - 2 ^ from) b, bit_at_mask_inside from 64 b low high) (omega (arith, bit_at-lt word b))

below : (word from b : ℕ) → from < 64 → b < from → bit_at (from_bit word from) b ≡ 0
below word from b h low =
    rw (ones_shl 64 from (omega arith), bit_at_and word (2 ^ 64 - 2 ^ from) b, bit_at_mask_below from 64 b low) (omega arith)

pub no_next_bit : (word from : ℕ) → word < 2 ^ 64 → from < 64 → from_bit word from ≡ 0 → (b : ℕ) → from ≤ b → bit_at word b ≡ 0
no_next_bit word from fits h none b low = elim (cases_lt b 64) [
  | inl high ↦ sym (above word from b h low high) ∙ ap (λ n. bit_at n b) none ∙ bit_at-zero b
  | inr past ↦ bit_at_above word 64 b fits past
]

pub least_bit : (word from : ℕ) → word < 2 ^ 64 → from < 64 → 0 < from_bit word from → IsNextBit word from (trailing_zeros w64 (from_bit word from))
least_bit word from fits h some =
    let most : from_bit word from ≤ word = and_le_l word ((2 ^ 64 - 1) * 2 ^ from % 2 ^ 64) in
    let found = bit_at-trailing_zeros w64 (from_bit word from) some (omega arith) in
    let after : from ≤ trailing_zeros w64 (from_bit word from) = elim (cases_lt (trailing_zeros w64 (from_bit word from)) from) [
      | inl low ↦ absurd (let z = below word from (trailing_zeros w64 (from_bit word from)) h low in omega (arith, found.1))
      | inr high ↦ high
    ] in
    record {
      after = after;
      within = found.0;
      set = sym (above word from (trailing_zeros w64 (from_bit word from)) h after found.0) ∙ found.1;
      least = λ b low high. sym (above word from b h low (omega (arith, found.0))) ∙ found.2 b high;
    }
