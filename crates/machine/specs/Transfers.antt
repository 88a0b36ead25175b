-- How many bytes a READ or WRITE transfers in full.
use Rattle.std.specs.Prelude.{ℕ, Bool, ◌&&◌, if◌then◌else◌, Option, None, slice_get}
use Rattle.machine.specs.Common.{Row, is_issued, WorldState, option_map_or, is_held_by, count_in, outcome_of, Full, is_transfer}
use Rattle.machine.specs.declared.whole.Machine.{Machine}

-- How many bytes an issued READ or WRITE transfers if it completes in full (read(2), write(2)).
abbrev pub full_bytes_of : (ℕ → Bool) → WorldState → Row → Option ℕ
full_bytes_of held w row =
    if is_transfer row.entry.opcode && is_issued row.phase
    then count_in (outcome_of held w row Full)
    else None

-- The same of request r.
abbrev pub full_bytes : Machine → ℕ → Option ℕ
full_bytes m r =
    option_map_or (full_bytes_of (is_held_by m.table) m.world) (slice_get m.table r) None
