-- Deadlines of timers, and TIMEOUTs that complete after a number of completions (io_uring_enter(2),
-- IORING_OP_TIMEOUT and IORING_OP_LINK_TIMEOUT).
use Rattle.std.specs.Prelude.{ℕ, pos, Bool, false, nat_le, List}
use Rattle.std.specs.Option.{option_map_or}
use Rattle.entries.specs.declared.row.Row.{Row}
use Rattle.links_drains.specs.Endings.{Ending, endings, given}
use Rattle.timeouts_cancel.specs.Cascades.{is_met}

-- Whether the request has a deadline that has passed at time `now`.
abbrev pub is_due : ℕ → Row → Bool
is_due now row = option_map_or (λ deadline. nat_le deadline now) row.deadline false

-- The TIMEOUTs whose count `total` has reached. They complete with 0.
abbrev pub met_rows : List Row → ℕ → List Ending
met_rows rows total = endings (λ r row. given (is_met total row) (pos 0)) rows
