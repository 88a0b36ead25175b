-- The phases of requests (queued, issued or completed), and counts of completed requests.
use Rattle.std.specs.Prelude.{ℕ, Bool, true, false, not, ◌&&◌, List, length}
use Rattle.links_drains.specs.Common.{Row, filter, Queued, Issued, Ended}
use Rattle.entries.specs.declared.row.Phase.{Phase}
use Rattle.opcodes.specs.Opcodes.{is_timer}

abbrev pub is_queued : Phase → Bool
is_queued Queued = true
is_queued Issued = false
is_queued (Ended res) = false

abbrev pub is_issued : Phase → Bool
is_issued Queued = false
is_issued Issued = true
is_issued (Ended res) = false

abbrev pub is_ended : Phase → Bool
is_ended Queued = false
is_ended Issued = false
is_ended (Ended res) = true

abbrev pub is_unfinished : Phase → Bool
is_unfinished phase = not (is_ended phase)

-- Whether the completion of a request counts for TIMEOUTs (io_uring_enter(2)): all do but those of
-- TIMEOUT and LINK_TIMEOUT.
abbrev pub counts : Row → Bool
counts row = not (is_timer row.entry.opcode)

-- How many completed requests count for TIMEOUTs.
abbrev pub counted_of : List Row → ℕ
counted_of rows = length (filter (λ row. is_ended row.phase && counts row) rows)

-- How many requests have completed.
abbrev pub ended_of : List Row → ℕ
ended_of rows = length (filter (λ row. is_ended row.phase) rows)
