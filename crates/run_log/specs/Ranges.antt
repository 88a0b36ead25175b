-- The range of events to log.
use Rattle.std.specs.Prelude.{ℕ, ◌&&◌, nat_le, nat_lt, Bool, true, Option, None, Some}
use Rattle.run_log.specs.Common.{EventRange}

-- Whether an index is below an optional end.
abbrev pub is_below : ℕ → Option ℕ → Bool
is_below i None = true
is_below i (Some end) = nat_lt i end

-- Whether an event is in a range.
abbrev pub has : EventRange → ℕ → Bool
has r i = nat_le r.from i && is_below i r.to
