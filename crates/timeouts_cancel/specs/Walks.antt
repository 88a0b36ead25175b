-- Computing the direct completions and the requests that they sever, in one pass over the table.
-- Public contracts don't use it.
use Rattle.std.specs.Prelude.{◌≡◌, ℕ, ℤ, ◌<◌, ◌≤◌, true, Option, Some, slice_get, List, take}
use Rattle.entries.specs.declared.row.Row.{Row}
use Rattle.links_drains.specs.Links.{is_soft_linked}
use Rattle.links_drains.specs.Endings.{Ending, result_in, endings, or_else, given, ecanceled}
use Rattle.timeouts_cancel.specs.Cascades.{first_listed, with_severed, is_severed, is_bad}

-- A listed request severs r: it comes earlier in r's chain, is soft-linked, and failed.
pub record Severs (rows : List Row) (r : ℕ) (row : Row) (e : Ending) : Type 0 where
  pub before : Row
  pub there : slice_get rows e.0 ≡ Some before
  pub less : e.0 < r
  pub unit : before.unit ≡ row.unit
  pub soft : is_soft_linked before ≡ true
  pub bad : is_bad before e.1 ≡ true

-- The direct completions, and the requests that they sever.
abbrev pub own_endings : List Row → List Ending → List Ending
own_endings rows direct = first_listed rows direct

abbrev pub severed_endings : List Row → List Ending → List Ending
severed_endings rows direct = with_severed rows (own_endings rows direct)

-- The result of a request after the first two rules.
abbrev pub result_by : List Row → List Ending → ℕ → Row → Option ℤ
result_by rows direct r row =
    or_else (result_in (own_endings rows direct) r)
    (given (is_severed rows (own_endings rows direct) r row) ecanceled)

-- The completions among the first k rows.
abbrev pub upto : (ℕ → Row → Option ℤ) → List Row → ℕ → List Ending
upto f rows k = endings f (take k rows)

-- The rows below k were processed. They include the first i direct completions and no others, and
-- these sever no row from k on.
pub record Walked (rows : List Row) (direct : List Ending) (k i : ℕ) (es : List Ending) : Type 0 where
  pub listed : es ≡ upto (result_by rows direct) rows k
  pub below : (j : ℕ) (e : Ending) → slice_get direct j ≡ Some e → j < i → e.0 < k
  pub above : (j : ℕ) (e : Ending) → slice_get direct j ≡ Some e → i ≤ j → k ≤ e.0
  pub clear : (r : ℕ) (row : Row) (j : ℕ) (e : Ending) → k ≤ r → slice_get rows r ≡ Some row
      → slice_get direct j ≡ Some e → j < i → Severs rows r row e → ⊥

-- A direct completion severs chain `unit`, and no earlier one severs a row of it or a later row.
pub record Cause (rows : List Row) (direct : List Ending) (unit : ℕ) : Type 0 where
  pub at : ℕ
  pub cause : Ending
  pub there : slice_get direct at ≡ Some cause
  pub head : Row
  pub is_head : slice_get rows cause.0 ≡ Some head
  pub soft : is_soft_linked head ≡ true
  pub bad : is_bad head cause.1 ≡ true
  pub unit_is : head.unit ≡ unit
  pub clear : (r : ℕ) (row : Row) (j : ℕ) (e : Ending) → cause.0 ≤ r → slice_get rows r ≡ Some row
      → slice_get direct j ≡ Some e → j < at → Severs rows r row e → ⊥

-- The rows below k were processed. The last of them belongs to chain `unit`, which a direct
-- completion severs.
pub record Sweeping (rows : List Row) (direct : List Ending) (k i : ℕ) (es : List Ending) (unit : ℕ) : Type 0 where
  pub listed : es ≡ upto (result_by rows direct) rows k
  pub below : (j : ℕ) (e : Ending) → slice_get direct j ≡ Some e → j < i → e.0 < k
  pub above : (j : ℕ) (e : Ending) → slice_get direct j ≡ Some e → i ≤ j → k ≤ e.0
  pub from : Cause rows direct unit
  pub passed : from.at < i
  pub run : (q : ℕ) (y : Row) → from.cause.0 ≤ q → q < k → slice_get rows q ≡ Some y → y.unit ≡ unit

-- The same, after at least the first `at` direct completions.
pub record SweepsOn (rows : List Row) (direct : List Ending) (k i : ℕ) (es : List Ending) (unit at : ℕ) : Type 0 where
  pub sweeping : Sweeping rows direct k i es unit
  pub on : at ≤ i
