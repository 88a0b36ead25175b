-- The queued requests, in order.
use Rattle.std.specs.Prelude.{ℕ, Bool, Option, List}
use Rattle.entries.specs.declared.row.Row.{Row}
use Rattle.links_drains.specs.Numbered.{next_where, IsNextWhere, NoneWhere}
use Rattle.links_drains.specs.Phases.{is_queued}

-- Whether the request is queued: neither issued nor completed.
abbrev pub is_queued_row : Row → Bool
is_queued_row row = is_queued row.phase

-- The first queued request from a number on.
abbrev pub next_queued : List Row → ℕ → Option ℕ
next_queued = next_where is_queued_row

abbrev pub IsNextQueued : List Row → ℕ → ℕ → Type 0
IsNextQueued = IsNextWhere is_queued_row

abbrev pub NoneQueuedFrom : List Row → ℕ → Type 0
NoneQueuedFrom = NoneWhere is_queued_row
