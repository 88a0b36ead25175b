-- TIMEOUTs that complete after a number of completions (io_uring_enter(2), IORING_OP_TIMEOUT).
use Rattle.std.specs.Prelude.{◌≡◌, ℕ, ◌+◌, ◌==◌, ◌≤◌, ◌<◌, min, Bool, true, false, ◌&&◌, nat_lt, nat_le, if◌then◌else◌, Some, List, slice_get}
use Rattle.links_drains.specs.Common.{Row, option_map_or, never}
use Rattle.links_drains.specs.Phases.{is_issued}

-- A TIMEOUT with a number of completions to wait for, in its `off` field.
abbrev pub has_count : Row → Bool
has_count row = (row.entry.opcode == 11) && nat_lt 0 row.entry.off

-- An issued TIMEOUT that waits for a number of completions.
abbrev pub is_count_timeout : Row → Bool
is_count_timeout row = is_issued row.phase && has_count row

-- Whether `total` has reached the count that the TIMEOUT waits for.
abbrev pub is_met : ℕ → Row → Bool
is_met total row = is_count_timeout row && nat_le (row.base + row.entry.off) total

-- r is the first request from a number on whose count `total` has reached.
pub record IsNextMet (rows : List Row) (total from r : ℕ) : Type 0 where
  pub after : from ≤ r
  pub row : Row
  pub there : slice_get rows r ≡ Some row
  pub met : is_met total row ≡ true
  pub least : (i : ℕ) (x : Row) → from ≤ i → i < r → slice_get rows i ≡ Some x
      → is_met total x ≡ false

-- No request from a number on waits for a count that `total` has reached.
abbrev pub NoneMetFrom : List Row → ℕ → ℕ → Type 0
NoneMetFrom rows total from =
    (i : ℕ) (x : Row) → from ≤ i → slice_get rows i ≡ Some x → is_met total x ≡ false

-- ---- Thresholds

-- The total of counted completions at which the request completes.
abbrev pub threshold_of : Row → ℕ
threshold_of row = if is_count_timeout row then min (row.base + row.entry.off) never else never

-- The threshold of request r; `never` if there is none.
abbrev pub threshold_in : List Row → ℕ → ℕ
threshold_in rows r = option_map_or threshold_of (slice_get rows r) never
