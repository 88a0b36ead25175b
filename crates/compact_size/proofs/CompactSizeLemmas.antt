-- What `put_number` appends is read back as the same number, whatever follows it.
use Rattle.std.proofs.Common.{◌≡◌, ℕ, ◌<◌, ◌≤◌, ◌^◌, refl, sym, ◌∙◌, ap, List, [], ◌∷◌, ◌++◌, length, append_assoc, length-append, drop, arith, false}
use Rattle.std.specs.Prelude.{◌==◌, nat_lt}
use Rattle.std.proofs.Math.Seq.{drop-append_seam}
use Rattle.byteorder.specs.Endian.{little_bytes}
use Rattle.byteorder.specs.Numbers.{little_number-reads_back, length-bytes_low_first}
use Rattle.compact_size.specs.Reading.{Puts}
use Rattle.compact_size.specs.CompactSizes.{number_of, after, wide_number}

pub small_reads : (n : ℕ) (rest : List ℕ) → n < 253 → (number_of (n ∷ rest) ≡ n) × (after (n ∷ rest) ≡ rest)
unfolding number_of after
small_reads n rest h =
    let a : (n == 253) ≡ false = grind arith in
    let b : (n == 254) ≡ false = grind arith in
    let d : (n == 255) ≡ false = grind arith in
    (rw (a, b, d) refl, rw (a, b, d) refl)

drop_bytes : (w n : ℕ) (rest : List ℕ) → drop w (little_bytes w n ++ rest) ≡ rest
drop_bytes w n rest = ap (λ k. drop k (little_bytes w n ++ rest)) (sym (length-bytes_low_first 0 w n)) ∙ drop-append_seam (little_bytes w n) rest

not_less : (m n : ℕ) → n ≤ m → nat_lt m n ≡ false
not_less m n h = grind arith

wide_reads : (w n : ℕ) (rest : List ℕ) → n < 256 ^ w → wide_number w (little_bytes w n ++ rest) ≡ n
wide_reads w n rest h =
    let l : w ≤ length (little_bytes w n ++ rest) = omega (arith, length-append (little_bytes w n) rest, length-bytes_low_first 0 w n) in
    rw (not_less (length (little_bytes w n ++ rest)) w l) (little_number-reads_back w n rest h)

pub put_small : (old : List ℕ) (n : ℕ) → n < 253 → Puts number_of after old (n ∷ []) (old ++ n ∷ [])
put_small old n h rest = record { put = n ∷ rest; joined = append_assoc old (n ∷ []) rest; reads = small_reads n rest h }

module _ (old : List ℕ) (n : ℕ) where
  pub put_two_bytes : n < 256 ^ 2 → Puts number_of after old (n ∷ []) (old ++ 253 ∷ little_bytes 2 n)
  unfolding number_of after
  put_two_bytes h rest = record { put = 253 ∷ (little_bytes 2 n ++ rest); joined = append_assoc old (253 ∷ little_bytes 2 n) rest; reads = (wide_reads 2 n rest h, drop_bytes 2 n rest) }

  pub put_four_bytes : n < 256 ^ 4 → Puts number_of after old (n ∷ []) (old ++ 254 ∷ little_bytes 4 n)
  unfolding number_of after
  put_four_bytes h rest = record { put = 254 ∷ (little_bytes 4 n ++ rest); joined = append_assoc old (254 ∷ little_bytes 4 n) rest; reads = (wide_reads 4 n rest h, drop_bytes 4 n rest) }

  pub put_eight_bytes : n < 256 ^ 8 → Puts number_of after old (n ∷ []) (old ++ 255 ∷ little_bytes 8 n)
  unfolding number_of after
  put_eight_bytes h rest = record { put = 255 ∷ (little_bytes 8 n ++ rest); joined = append_assoc old (255 ∷ little_bytes 8 n) rest; reads = (wide_reads 8 n rest h, drop_bytes 8 n rest) }
