-- Timespecs that are overwritten before the kernel reads them. It reads the one of a TIMEOUT or a
-- LINK_TIMEOUT when it takes the entry (io_uring_enter(2)).
use Rattle.std.specs.Prelude.{ℕ, ◌==◌, Bool, false, ◌&&◌, if◌then◌else◌, slice_get, List}
use Rattle.finding_rules.specs.Common.{option_map_or, Sqe, Row, is_timer, Machine, Effect, Nothing, Stored, Finished}
use Rattle.finding_rules.specs.{Conflicts.meet, Conflicts.moved, Uses.is_pushed_last}

-- The bytes of memory that a completed request wrote, by the first address and their number: those
-- that a READ moved (read(2)).
abbrev pub read_into : Row → ℕ × ℕ
read_into row = if row.entry.opcode == 22 then (row.entry.addr, moved row.phase) else (0, 0)

-- The bytes of memory that an event wrote, by the first address and their number.
abbrev pub written_by : Effect → ℕ × ℕ
written_by Nothing = (0, 0)
written_by (Stored address n) = (address, n)
written_by (Finished r row) = read_into row

-- Whether the timespec of an entry overlaps a range of memory. It has 16 bytes: seconds and
-- nanoseconds (timespec(3)).
abbrev pub has_timespec_in : ℕ × ℕ → Sqe → Bool
has_timespec_in range entry = is_timer entry.opcode && meet range.0 range.1 entry.addr 16

-- Whether the timespec of the entry in a slot does.
abbrev pub is_over_slot : List Sqe → ℕ × ℕ → ℕ → Bool
is_over_slot slots range slot = option_map_or (has_timespec_in range) (slice_get slots slot) false

-- Whether the effect of an event overwrites the timespec of the entry in a slot, which is among the
-- last 64 pushed and not yet taken.
abbrev pub overwrites : Machine → Effect → ℕ → Bool
overwrites m Nothing slot = false
overwrites m effect slot =
    is_pushed_last m.submissions slot && is_over_slot m.submissions.slots (written_by effect) slot
