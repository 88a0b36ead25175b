-- The nearest of some moments above or below a position.
use Rattle.std.specs.Prelude.{ℕ, ◌<◌, ◌≤◌, min, max, nat_lt, nat_le, List, [], ◌∷◌, filter, All, Contains, if◌then◌else◌, Option, Some, None}
use Rattle.std.specs.Option.{option_map_or}

-- The least of some moments.
abbrev pub least : List ℕ → Option ℕ
least [] = None
least (m ∷ ms) = Some (option_map_or (min m) (least ms) m)

-- The greatest of some moments.
abbrev pub greatest : List ℕ → Option ℕ
greatest [] = None
greatest (m ∷ ms) = Some (option_map_or (max m) (greatest ms) m)

-- The least of those above a position.
unfoldable pub least_above : List ℕ → ℕ → Option ℕ
least_above ms at = least (filter (nat_lt at) ms)

-- The greatest of those below a position.
unfoldable pub greatest_below : List ℕ → ℕ → Option ℕ
greatest_below ms at = greatest (filter (λ m. nat_lt m at) ms)

-- What the two mean.
abbrev pub IsLeastAbove : List ℕ → ℕ → Option ℕ → Type 0
IsLeastAbove ms at None = All (λ k. k ≤ at) ms
IsLeastAbove ms at (Some m) = Contains ms m × (at < m) × All (λ k. at < k → m ≤ k) ms

abbrev pub IsGreatestBelow : List ℕ → ℕ → Option ℕ → Type 0
IsGreatestBelow ms at None = All (λ k. at ≤ k) ms
IsGreatestBelow ms at (Some m) = Contains ms m × (m < at) × All (λ k. k < at → k ≤ m) ms

-- ---- Ascending order

-- Sorted moments with one more.
abbrev pub inserted : ℕ → List ℕ → List ℕ
inserted m [] = m ∷ []
inserted m (n ∷ ns) = if nat_le m n then m ∷ n ∷ ns else n ∷ inserted m ns

-- The moments in ascending order.
abbrev pub sorted : List ℕ → List ℕ
sorted [] = []
sorted (m ∷ ms) = inserted m (sorted ms)
