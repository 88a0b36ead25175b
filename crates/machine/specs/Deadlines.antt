-- Deadlines of issued requests.
use Rattle.std.specs.Prelude.{ℕ, Option, None, List, slice_get, if◌then◌else◌}
use Rattle.machine.specs.Common.{Row, is_issued, option_map_or}

-- The deadline of a request, if it is issued and has one.
abbrev pub issued_deadline : Row → Option ℕ
issued_deadline row = if is_issued row.phase then row.deadline else None

-- The deadline of request r.
abbrev pub deadline_at : List Row → ℕ → Option ℕ
deadline_at rows r = option_map_or issued_deadline (slice_get rows r) None
