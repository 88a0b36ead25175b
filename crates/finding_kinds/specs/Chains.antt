-- The next request after a given one in the submission order.
use Rattle.std.specs.Prelude.{ℕ, ◌+◌, false, if◌then◌else◌, slice_get, List}
use Rattle.finding_kinds.specs.Common.{option_map_or, Row, is_guard}

-- How far the next request is after request r: 2 if a linked timeout (IORING_OP_LINK_TIMEOUT) is
-- between them, else 1.
abbrev pub distance_to_next : List Row → ℕ → ℕ
distance_to_next rows r = if option_map_or is_guard (slice_get rows (r + 1)) false then 2 else 1
