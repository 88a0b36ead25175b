-- Sets of numbers as lists of 64-bit words.
use Rattle.std.specs.Prelude.{◌≡◌, ℕ, Bool, true, false, not, List, ◌==◌, ◌≤◌, ◌<◌, ◌/◌, ◌%◌, length, slice_index}
use Rattle.std.specs.Int.{bit_at}

-- Whether number k is in the set: bit k % 64, counted from the lowest, of word k / 64.
unfoldable pub has : List ℕ → ℕ → Bool
has words k = bit_at (slice_index words (k / 64)) (k % 64) == 1

-- k is the lowest set bit of the word at or above `from`.
pub record IsNextBit (word from k : ℕ) : Type 0 where
  pub after : from ≤ k
  pub within : k < 64
  pub set : bit_at word k ≡ 1
  pub least : (b : ℕ) → from ≤ b → b < k → bit_at word b ≡ 0

-- k is the least number of the set at or above `from`.
pub record IsNext (words : List ℕ) (from k : ℕ) : Type 0 where
  pub after : from ≤ k
  pub member : has words k ≡ true
  pub least : (i : ℕ) → from ≤ i → i < k → has words i ≡ false

-- The set has no number at or above `from`.
abbrev pub NoneFrom : List ℕ → ℕ → Type 0
NoneFrom words from = (i : ℕ) → from ≤ i → has words i ≡ false

-- Bit w of the summary is set exactly if word w is not 0.
pub record Summed (words summary : List ℕ) : Type 0 where
  pub few : length words ≤ 1024
  pub short : length summary ≡ 16
  pub sums : (w : ℕ) → has summary w ≡ not (slice_index words w == 0)
