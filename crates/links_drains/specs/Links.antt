-- Link and drain flags of requests (io_uring_enter(2), IOSQE_IO_LINK, IOSQE_IO_HARDLINK,
-- IOSQE_IO_DRAIN).
use Rattle.std.specs.Prelude.{◌≡◌, ℕ, ◌+◌, ◌≤◌, ◌==◌, Bool, not, ◌&&◌, ◌||◌, ◌⊎◌, Some, List, length, slice_get}
use Rattle.std.specs.Int.Bits.{bit_and}
use Rattle.links_drains.specs.Common.{Row, Sqe}

-- Whether the flags have a bit, which is given by its value.
abbrev pub has_flag : ℕ → ℕ → Bool
has_flag flags bit = not (bit_and flags bit == 0)

-- Whether a failure of the request severs the rest of its chain: IOSQE_IO_LINK without
-- IOSQE_IO_HARDLINK.
abbrev pub is_soft_linked : Row → Bool
is_soft_linked row = has_flag row.entry.flags 4 && not (has_flag row.entry.flags 8)

-- Whether the next entry belongs to the same chain.
abbrev pub is_linked : Sqe → Bool
is_linked entry = has_flag entry.flags 4 || has_flag entry.flags 8

-- Whether the request has IOSQE_IO_DRAIN.
abbrev pub has_drain_flag : Row → Bool
has_drain_flag row = has_flag row.entry.flags 2

-- Whether the request is a guard: a linked timeout (IORING_OP_LINK_TIMEOUT), which limits the
-- request before it.
abbrev pub is_guard : Row → Bool
is_guard row = row.entry.opcode == 15

-- A new request begins a chain, or belongs to the chain of the last request.
abbrev pub ChainContinues : List Row → Row → Type 0
ChainContinues rows row =
    (row.unit ≡ length rows)
    ⊎ ((last : Row) × (k : ℕ) × (k + 1 ≡ length rows) × (slice_get rows k ≡ Some last)
    × (row.unit ≡ last.unit))

-- Each chain is a contiguous range of requests, and `unit` is the number of its first request. A
-- request without links is a chain by itself.
pub record Chained (rows : List Row) : Type 0 where
  pub back : (r : ℕ) (x : Row) → slice_get rows r ≡ Some x → x.unit ≤ r
  pub run : (q r : ℕ) (y x : Row) → slice_get rows q ≡ Some y → slice_get rows r ≡ Some x → q ≤ r
      → x.unit ≤ q → y.unit ≡ x.unit
