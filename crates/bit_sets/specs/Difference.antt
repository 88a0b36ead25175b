-- The numbers in one set and not in another.
use Rattle.std.specs.Prelude.{◌≡◌, ℕ, Bool, true, false, not, ◌&&◌, List, ◌≤◌, ◌<◌}
use Rattle.bit_sets.specs.Sets.{has}

-- Whether k is in the set `words` and not in the set `others`.
abbrev pub in_difference : List ℕ → List ℕ → ℕ → Bool
in_difference words others k = has words k && not (has others k)

-- k is the least such number at or above `from`.
pub record IsNextInDifference (words others : List ℕ) (from k : ℕ) : Type 0 where
  pub after : from ≤ k
  pub member : in_difference words others k ≡ true
  pub least : (i : ℕ) → from ≤ i → i < k → in_difference words others i ≡ false

-- There is no such number at or above `from`.
abbrev pub NoneInDifference : List ℕ → List ℕ → ℕ → Type 0
NoneInDifference words others from = (i : ℕ) → from ≤ i → in_difference words others i ≡ false
