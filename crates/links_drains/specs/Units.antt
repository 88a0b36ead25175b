-- The requests of a chain, and the chains that later requests wait for.
use Rattle.std.specs.Prelude.{◌≡◌, ℕ, ◌==◌, Bool, true, false, ◌&&◌, nat_lt, Option, Some, List, slice_get}
use Rattle.links_drains.specs.Common.{Row, list_any, option_map_or, has}
use Rattle.links_drains.specs.Eligible.{drains}
use Rattle.links_drains.specs.Numbered.{numbers_where, next_where, IsNextWhere, NoneWhere}
use Rattle.links_drains.specs.Phases.{is_issued, is_unfinished}

-- Whether there is a row r, and it passes a test.
abbrev pub passes_at : (Row → Bool) → List Row → ℕ → Bool
passes_at test rows r = option_map_or test (slice_get rows r) false

-- Whether the request has not completed.
abbrev pub is_open : Row → Bool
is_open row = is_unfinished row.phase

-- Whether the request was issued and has not completed.
abbrev pub is_issued_row : Row → Bool
is_issued_row row = is_issued row.phase

-- The first issued request from a number on.
abbrev pub next_issued : List Row → ℕ → Option ℕ
next_issued = next_where is_issued_row

abbrev pub IsNextIssued : List Row → ℕ → ℕ → Type 0
IsNextIssued = IsNextWhere is_issued_row

abbrev pub NoneIssuedFrom : List Row → ℕ → Type 0
NoneIssuedFrom = NoneWhere is_issued_row

-- Whether request k is a later, unfinished request of r's chain.
abbrev pub is_rest : List Row → ℕ → ℕ → Row → Bool
is_rest rows r k other =
    nat_lt r k && (passes_at (λ (row : Row). other.unit == row.unit) rows r && is_open other)

-- The later requests of r's chain that have not completed.
abbrev pub rest_of : List Row → ℕ → List ℕ
rest_of rows r = numbers_where (is_rest rows r) rows

-- Whether some request of the chain has not completed.
abbrev pub is_under_way : List Row → ℕ → Bool
is_under_way rows unit = list_any (λ (row : Row). (row.unit == unit) && is_open row) rows

-- Whether the chain drains and has not completed. The requests of all later chains wait for it.
abbrev pub is_barrier : List Row → ℕ → Bool
is_barrier rows unit = drains rows unit && is_under_way rows unit

-- A set of request numbers has a request of the chain.
pub record HasRowOf (words : List ℕ) (rows : List Row) (unit : ℕ) : Type 0 where
  pub number : ℕ
  pub row : Row
  pub there : slice_get rows number ≡ Some row
  pub same : row.unit ≡ unit
  pub member : has words number ≡ true

abbrev pub HasNoRowOf : List ℕ → List Row → ℕ → Type 0
HasNoRowOf words rows unit =
    (r : ℕ) (row : Row) → slice_get rows r ≡ Some row → row.unit ≡ unit → has words r ≡ false
