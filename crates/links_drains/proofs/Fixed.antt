-- The fields of a request that never change.
use Rattle.links_drains.proofs.Common.{◌≡◌, ℕ, ap, List, map, length, ◌<◌, arith, Some, option_map, slice_get, slice_set, nat_lt, ◌==◌, ◌&&◌, slice_get_within, Sqe, Row, map_same, has_count, has_drain_flag, fixed_of, has_flag}

-- Row i exists and may be replaced by the row.
pub record Fixed (rows : List Row) (i : ℕ) (row : Row) : Type 0 where
  pub before : Row
  pub there : slice_get rows i ≡ Some before
  pub same : fixed_of row ≡ fixed_of before

pub fixed_at : (rows : List Row) (i : ℕ) (row : Row) → option_map fixed_of (slice_get rows i) ≡ Some (fixed_of row) → Fixed rows i row
fixed_at = grind arith

pub fixed_within : (rows : List Row) (i : ℕ) (row : Row) → option_map fixed_of (slice_get rows i) ≡ Some (fixed_of row) → i < length rows
fixed_within rows i row h = let f = fixed_at rows i row h in slice_get_within rows i f.before f.there

pub same_unit : (row before : Row) → fixed_of row ≡ fixed_of before → row.unit ≡ before.unit
same_unit row before h = ap (λ (p : Sqe × ℕ). p.1) h

pub same_count : (row before : Row) → fixed_of row ≡ fixed_of before → has_count row ≡ has_count before
same_count row before h = ap (λ (p : Sqe × ℕ). (p.0.opcode == 11) && nat_lt 0 p.0.off) h

pub same_drain : (row before : Row) → fixed_of row ≡ fixed_of before → has_drain_flag row ≡ has_drain_flag before
same_drain row before h = ap (λ (p : Sqe × ℕ). has_flag p.0.flags 2) h

pub fixed_here : (rows : List Row) (i : ℕ) (before : Row) → slice_get rows i ≡ Some before → option_map fixed_of (slice_get rows i) ≡ Some (fixed_of before)
fixed_here rows i before h = ap (option_map fixed_of) h

pub fixed_all : (rows : List Row) (i : ℕ) (row : Row) → option_map fixed_of (slice_get rows i) ≡ Some (fixed_of row) → map fixed_of (slice_set rows i row) ≡ map fixed_of rows
fixed_all rows i row h = let f = fixed_at rows i row h in map_same fixed_of rows i f.before row f.there f.same
