-- Findings about completed cancels and removals, by the requests that they match
-- (io_uring_prep_cancel(3), io_uring_enter(2)).
use Rattle.std.specs.Prelude.{ℕ, ◌==◌, Bool, false, not, ◌&&◌, nat_lt, if◌then◌else◌, Option, Some, None, slice_get, List, length, option_and_then}
use Rattle.finding_rules.specs.Common.{option_map_or, Row, Event, Finish, is_cancel, matches_of, key_of, takes_all, Machine, CancelKind, NoneFound, Several, LeftRunning, Cancel}

-- The request with its number of matches, if it is a cancel or removal.
abbrev pub cancel_in : List Row → ℕ → Row → Option Cancel
cancel_in rows r row = if is_cancel row.entry.opcode then Some (record { number = r; entry = row.entry; matched = length (matches_of rows (key_of row.entry) r) }) else None

-- The cancel or removal that an event completes.
abbrev pub cancel_before : Machine → Event → Option Cancel
cancel_before m (Finish r c) = option_and_then (cancel_in m.table r) (slice_get m.table r)
cancel_before m e = None

-- Whether some request still matches.
abbrev pub matches_some : Cancel → List Row → Bool
matches_some x rows = nat_lt 0 (length (matches_of rows (key_of x.entry) x.number))

-- Whether a completed cancel or removal is a finding, by all requests after the event:
--   NoneFound: it cancels all that wait (IORING_ASYNC_CANCEL_ALL), and none matched.
--   Several: it acts on the first match only, and more than one matched: the lowest number.
--   LeftRunning: it cancels all that wait, and some still match, since they are running.
abbrev pub is_of_cancel : CancelKind → Cancel → List Row → Bool
is_of_cancel NoneFound x rows = takes_all x.entry && (x.matched == 0)
is_of_cancel Several x rows = not (takes_all x.entry) && nat_lt 1 x.matched
is_of_cancel LeftRunning x rows = takes_all x.entry && matches_some x rows

-- Whether an event completes cancel or removal n, and that is a finding about it.
abbrev pub cancel_shows : CancelKind → Machine → Event → Machine → ℕ → Bool
cancel_shows kind before e after n = option_map_or (λ (x : Cancel). (x.number == n) && is_of_cancel kind x after.table) (cancel_before before e) false
