-- Facts about the flags word.
use Rattle.ring_words.proofs.Common.{◌≡◌, ℕ, zero, suc, Bool, true, false, refl, sym, ◌∙◌, ap, ◌*◌, ◌%◌, ◌-◌, ◌<◌, ◌^◌, ◌⊎◌, inl, inr, arith, not, ◌==◌, or_lt, and_le_l, and_or_apart, and_assoc, and_comm, and_mask, bit_at, bit_of, has_flag, with_flag, RingFlag}
use Rattle.std.{proofs.lemmas.Nat.Bits.bit_at-lt, proofs.lemmas.Nat.Bits.and_pow, specs.Int.Bits.bit_and, specs.Int.Bits.bit_or, specs.Int.Bits.or_add_and, proofs.lemmas.Grind.common_steps}
use Rattle.ring_words.specs.declared.flag.RingFlag.TheVariants.{NeedWakeup, CqOverflow}

-- The flags word still fits into 32 bits.
pub with_flag_fits : (n : ℕ) (f : RingFlag) (on : Bool) → n < 2 ^ 32 → with_flag n f on < 2 ^ 32
with_flag_fits n NeedWakeup true h = or_lt 32 n 1 h (omega arith)
with_flag_fits n CqOverflow true h = or_lt 32 n 2 h (omega arith)
with_flag_fits n f false h = let l = and_le_l n (2 ^ 32 - 1 - bit_of f) in omega (arith, l)

-- A flag is set after setting it, and clear after clearing it.
pub flag_set : (n : ℕ) (f : RingFlag) (on : Bool) → has_flag (with_flag n f on) f ≡ on
flag_set = grind (arith, common_steps)

pub overflow_kept : (n : ℕ) (on : Bool) → has_flag (with_flag n NeedWakeup on) CqOverflow ≡ has_flag n CqOverflow
overflow_kept = grind (arith, and_or_apart, and_assoc)

-- Setting a bit that is set changes nothing.
set_again : (n m : ℕ) → bit_and n m ≡ m → bit_or n m ≡ n
set_again n m e = let k = or_add_and n m in omega (arith, k, e)

-- Clearing a bit that is clear changes nothing.
cleared_again : (n m a : ℕ) → bit_or a m ≡ 2 ^ 32 - 1 → bit_and n m ≡ 0 → n < 2 ^ 32 → bit_and n a ≡ n
cleared_again n m a all e l =
    let whole : n % 2 ^ 32 ≡ n = omega arith in
    and_comm n a ∙ sym (and_or_apart n a m (and_comm m n ∙ e)) ∙ ap (λ x. bit_and x n) all ∙ and_comm (2 ^ 32 - 1) n ∙ and_mask n 32 ∙ whole

-- Masking with a power of two gives 0 or that power.
bit_cases : (n k : ℕ) → (bit_and n (2 ^ k) ≡ 0) ⊎ (bit_and n (2 ^ k) ≡ 2 ^ k)
bit_cases n k = by (bit_at n k) (bit_at-lt n k) (and_pow n k)
  where
    by : (b : ℕ) → b < 2 → bit_and n (2 ^ k) ≡ b * 2 ^ k → (bit_and n (2 ^ k) ≡ 0) ⊎ (bit_and n (2 ^ k) ≡ 2 ^ k)
    by zero l e = inl (omega arith)
    by (suc zero) l e = inr (omega arith)
    by (suc (suc b)) l e = absurd (omega arith)

-- Setting a flag to its current value changes nothing.
pub with_flag_same : (n : ℕ) (f : RingFlag) (on : Bool) → n < 2 ^ 32 → has_flag n f ≡ on → with_flag n f on ≡ n
with_flag_same n NeedWakeup true h e = grind (arith, common_steps, bit_cases, set_again)
with_flag_same n CqOverflow true h e = by (bit_cases n 1)
  where
    by : (bit_and n 2 ≡ 0) ⊎ (bit_and n 2 ≡ 2) → bit_or n 2 ≡ n
    by (inl k) = let o : false ≡ true = ap (λ a. not (a == 0)) (sym k) ∙ e in absurd cc
    by (inr k) = set_again n 2 k
with_flag_same n NeedWakeup false h e = grind (arith, common_steps)
with_flag_same n CqOverflow false h e = by (bit_cases n 1)
  where
    by : (bit_and n 2 ≡ 0) ⊎ (bit_and n 2 ≡ 2) → bit_and n 4294967293 ≡ n
    by (inl k) = cleared_again n 2 4294967293 refl k h
    by (inr k) = let o : true ≡ false = ap (λ a. not (a == 0)) (sym k) ∙ e in absurd cc
