-- A threshold for each number, and the bounds that make finding a reached one fast.
use Rattle.std.specs.Prelude.{ℕ, ◌*◌, ◌/◌, ◌≤◌, ◌<◌, List, length, get_or}

-- The threshold that no total reaches.
abbrev pub never : ℕ
never = 4294967295

-- The threshold of number k; `never` if k is past the end of the list.
abbrev pub threshold_at : List ℕ → ℕ → ℕ
threshold_at thresholds k = get_or thresholds k never

-- k is the least number at or above `from` whose threshold is at most `total`.
pub record IsNextReached (thresholds : List ℕ) (total from k : ℕ) : Type 0 where
  pub after : from ≤ k
  pub reached : threshold_at thresholds k ≤ total
  pub least : (i : ℕ) → from ≤ i → i < k → total < threshold_at thresholds i

-- No number at or above `from` has a threshold of at most `total`.
abbrev pub NoneReachedFrom : List ℕ → ℕ → ℕ → Type 0
NoneReachedFrom thresholds total from = (i : ℕ) → from ≤ i → total < threshold_at thresholds i

-- `minima` bounds the thresholds of each block of 256 from below, and `least` bounds all minima.
pub record Bounded (each minima : List ℕ) (least : ℕ) : Type 0 where
  pub few : length minima ≤ 256
  pub covered : length each ≤ 256 * length minima
  pub blocks : (k : ℕ) → threshold_at minima (k / 256) ≤ threshold_at each k
  pub all : (w : ℕ) → least ≤ threshold_at minima w
