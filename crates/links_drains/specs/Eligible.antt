-- Which requests may be issued, defined over all requests ever submitted (io_uring_enter(2),
-- IOSQE_IO_LINK and IOSQE_IO_DRAIN).
use Rattle.std.specs.Prelude.{◌≡◌, ℕ, ◌<◌, ◌==◌, Bool, true, false, not, ◌&&◌, ◌||◌, nat_lt, Some, List, slice_get}
use Rattle.links_drains.specs.Common.{Row, list_any, option_map_or}
use Rattle.links_drains.specs.Links.{has_drain_flag, is_guard}
use Rattle.links_drains.specs.Numbered.{any_numbered}
use Rattle.links_drains.specs.Phases.{is_queued, is_unfinished}

-- Whether a chain drains: some member has IOSQE_IO_DRAIN, even one that has completed.
abbrev pub drains : List Row → ℕ → Bool
drains rows unit = list_any (λ (row : Row). (row.unit == unit) && has_drain_flag row) rows

-- Whether request q precedes request r in its chain, and is not a linked timeout.
abbrev pub is_before_in_unit : ℕ → Row → ℕ → Row → Bool
is_before_in_unit r row q other = (other.unit == row.unit) && (nat_lt q r && not (is_guard other))

-- Whether `other` belongs to an earlier chain, and one of the two chains drains.
abbrev pub is_before_in_drain : List Row → Row → Row → Bool
is_before_in_drain rows row other =
    nat_lt other.unit row.unit && (drains rows other.unit || drains rows row.unit)

-- Whether request r waits for request q to complete.
abbrev pub waits_for : List Row → ℕ → Row → ℕ → Row → Bool
waits_for rows r row q other =
    is_unfinished other.phase
    && (is_before_in_unit r row q other || is_before_in_drain rows row other)

-- Whether request r may be issued. A linked timeout is never issued alone, but together with its
-- target.
abbrev pub may_start : List Row → ℕ → Row → Bool
may_start rows r row =
    is_queued row.phase && (not (is_guard row) && not (any_numbered (waits_for rows r row) rows))

-- Whether there is a request r that may be issued.
abbrev pub is_eligible : List Row → ℕ → Bool
is_eligible rows r = option_map_or (may_start rows r) (slice_get rows r) false

-- Each unfinished linked timeout comes after an unfinished request of its chain.
abbrev pub GuardsFollow : List Row → Type 0
GuardsFollow rows =
    (k : ℕ) (guard : Row) → slice_get rows k ≡ Some guard → is_guard guard ≡ true
    → is_unfinished guard.phase ≡ true
    → (j : ℕ) × (row : Row) × (j < k) × (slice_get rows j ≡ Some row)
    × (is_unfinished row.phase ≡ true) × (row.unit ≡ guard.unit)
