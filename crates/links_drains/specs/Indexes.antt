-- The invariant of the index of a request table. Public contracts don't use it.
use Rattle.std.specs.Prelude.{◌≡◌, ◌≢◌, ℕ, ◌*◌, ◌≤◌, ◌<◌, true, false, Some, List, length, slice_get}
use Rattle.links_drains.specs.Common.{Row, has, never, threshold_at}
use Rattle.links_drains.specs.Counts.{has_count, threshold_in}
use Rattle.links_drains.specs.Eligible.{drains}
use Rattle.links_drains.specs.Links.{has_drain_flag, Chained}
use Rattle.links_drains.specs.Units.{passes_at, is_issued_row, is_open, is_barrier}
use Rattle.links_drains.specs.declared.index.Index.{Index}

-- The sets have room for n requests.
pub record HasRoom (n : ℕ) (index : Index) : Type 0 where
  pub unfinished : n ≤ 64 * length index.unfinished
  pub flagged : n ≤ 64 * length index.flagged
  pub barriers : n ≤ 64 * length index.barriers
  pub issued : n ≤ 64 * length index.issued

-- There is room for the threshold of each TIMEOUT with a count.
abbrev pub HasThresholds : List Row → Index → Type 0
HasThresholds rows index =
    (r : ℕ) (row : Row) → slice_get rows r ≡ Some row → has_count row ≡ true
    → r < length index.thresholds

-- The index is correct: its sets and thresholds agree with the table.
pub record Indexed (rows : List Row) (index : Index) : Type 0 where
  pub chained : Chained rows
  pub room : HasRoom (length rows) index
  pub counted : HasThresholds rows index
  pub unfinished : (r : ℕ) → has index.unfinished r ≡ passes_at is_open rows r
  pub flagged : (r : ℕ) → has index.flagged r ≡ passes_at has_drain_flag rows r
  pub barriers : (unit : ℕ) → has index.barriers unit ≡ is_barrier rows unit
  pub issued : (r : ℕ) → has index.issued r ≡ passes_at is_issued_row rows r
  pub thresholds : (r : ℕ) → threshold_at index.thresholds r ≡ threshold_in rows r

-- The index is correct but for request r and the chain `unit`. If the request has no count, its
-- threshold is correct, and if the chain doesn't drain, its barrier is.
pub record IndexedBut (r unit : ℕ) (rows : List Row) (index : Index) : Type 0 where
  pub chained : Chained rows
  pub room : HasRoom (length rows) index
  pub counted : HasThresholds rows index
  pub unfinished : (q : ℕ) → q ≢ r → has index.unfinished q ≡ passes_at is_open rows q
  pub flagged : (q : ℕ) → q ≢ r → has index.flagged q ≡ passes_at has_drain_flag rows q
  pub barriers : (u : ℕ) → u ≢ unit → has index.barriers u ≡ is_barrier rows u
  pub undrained : drains rows unit ≡ false → has index.barriers unit ≡ false
  pub issued : (q : ℕ) → q ≢ r → has index.issued q ≡ passes_at is_issued_row rows q
  pub thresholds : (q : ℕ) → q ≢ r → threshold_at index.thresholds q ≡ threshold_in rows q
  pub uncounted : passes_at has_count rows r ≡ false → threshold_at index.thresholds r ≡ never

-- The numbers in a range were removed from a set.
pub record Cleared (from to : ℕ) (old new : List ℕ) : Type 0 where
  pub len : length new ≡ length old
  pub below : (i : ℕ) → i < from → has new i ≡ has old i
  pub inside : (i : ℕ) → from ≤ i → i < to → has new i ≡ false
  pub past : (i : ℕ) → to ≤ i → has new i ≡ has old i

-- The thresholds in a range were set to `never`.
pub record Unreached (from to : ℕ) (old new : List ℕ) : Type 0 where
  pub len : length new ≡ length old
  pub below : (i : ℕ) → i < from → threshold_at new i ≡ threshold_at old i
  pub inside : (i : ℕ) → from ≤ i → i < to → threshold_at new i ≡ never
  pub past : (i : ℕ) → to ≤ i → threshold_at new i ≡ threshold_at old i

-- The requests in a range were removed from the index.
pub record Forgotten (from to : ℕ) (old new : Index) : Type 0 where
  pub unfinished : Cleared from to old.unfinished new.unfinished
  pub flagged : Cleared from to old.flagged new.flagged
  pub barriers : Cleared from to old.barriers new.barriers
  pub issued : Cleared from to old.issued new.issued
  pub thresholds : Unreached from to old.thresholds new.thresholds
