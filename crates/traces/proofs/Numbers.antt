-- Numbers and their little-endian bytes.
use Rattle.std.proofs.Common.{◌≡◌, ℕ, ◌^◌, ◌<◌, List, [], ◌++◌, sym, ap, ◌∙◌}
use Rattle.byteorder.specs.Endian.{little_bytes, little_number}
use Rattle.byteorder.specs.Numbers.{little_number-reads_back}

-- Numbers with equal bytes are equal.
pub same_number : (n x y : ℕ) → x < 256 ^ n → y < 256 ^ n → little_bytes n x ≡ little_bytes n y → x ≡ y
same_number n x y a b e =
    sym (little_number-reads_back n x [] a) ∙ ap (λ (xs : List ℕ). little_number n (xs ++ [])) e ∙ little_number-reads_back n y [] b
