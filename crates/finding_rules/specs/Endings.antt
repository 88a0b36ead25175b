-- Findings about requests that an event submits or completes.
use Rattle.std.specs.Prelude.{ℕ, ℤ, pos, negsuc, ◌+◌, ◌==◌, Bool, false, not, ◌&&◌, ◌||◌, nat_lt, nat_le, unsigned_abs, if◌then◌else◌, Option, Some, None, is_some, is_none, slice_get, List}
use Rattle.finding_rules.specs.Common.{option_map_or, Sqe, Phase, Issued, Row, is_cancel, is_timer, has_flag, is_guard, is_linked, is_soft_linked, any_numbered, is_ended, is_issued, is_open, is_bad, is_negative, is_transfer, distance_to_next, Verdict, Fault, Note, EndedKind, Failed, Short, Severed, Canceled, TimedOut, Expired, NotFound, TooLate, WentOn, QueuedKind, CutOff, NoEffect, SameUserData, Ended}
use Rattle.entries.specs.declared.row.Phase.TheVariants.{Queued}

-- ---- completions

-- Whether the request was complete before an event. A request that the event submits was not.
abbrev pub had_ended : Option Row → Bool
had_ended None = false
had_ended (Some row) = is_ended row.phase

-- Whether the request was issued and incomplete before the event.
abbrev pub was_issued : Option Row → Bool
was_issued None = false
was_issued (Some row) = is_issued row.phase

-- The result of a completed request.
abbrev pub result_in : Phase → Option ℤ
result_in Queued = None
result_in Issued = None
result_in (Ended res) = Some res

-- The result with which an event completes a request, from the request before and after it.
abbrev pub ending_of : Option Row → Row → Option ℤ
ending_of before row = if had_ended before then None else result_in row.phase

-- ---- results

-- Whether a result is the negated error number (errno(3)).
abbrev pub is_error : ℕ → ℤ → Bool
is_error errno res = is_negative res && (unsigned_abs res == errno)

-- Whether a result is at least 0 and below a number.
abbrev pub is_less : ℤ → ℕ → Bool
is_less (pos n) m = nat_lt n m
is_less (negsuc n) m = false

-- Whether another kind than Failed covers the error: ECANCELED, ETIME of a timer, and ENOENT and
-- EALREADY of a cancel or removal.
abbrev pub is_reported_apart : Row → ℤ → Bool
is_reported_apart row res =
    is_error 125 res || ((is_timer row.entry.opcode && is_error 62 res) || (is_cancel row.entry.opcode && (is_error 2 res || is_error 114 res)))

-- ---- kinds

-- The request after request r, skipping its linked timeout.
abbrev pub next_in : List Row → ℕ → Option Row
next_in rows r = slice_get rows (r + distance_to_next rows r)

-- Whether that one is in the same chain and no linked timeout.
abbrev pub has_next : Row → Option Row → Bool
has_next row next = option_map_or (λ (other : Row). (other.unit == row.unit) && not (is_guard other)) next false

-- Whether a hard-linked request fails or is short, and its chain continues. A chain ends at a
-- request that fails when it is submitted, or that an earlier soft link cancels.
abbrev pub leaves_chain : Option Row → Row → ℤ → Bool
leaves_chain before row res = has_flag row.entry.flags 8 && (is_bad row res && (was_issued before || (is_some before && not (is_error 125 res))))

-- Whether a soft-linked request failed or was short itself. Queued requests that are canceled with
-- their chain don't count.
abbrev pub severs : Option Row → Row → ℤ → Bool
severs before row res = is_soft_linked row && (is_bad row res && (was_issued before || not (is_error 125 res)))

-- What a finding about a completed request depends on besides the request:
--   short_of_end: it is a WRITE, or a READ of a file that stopped before the file's end.
--   severs_others: the event canceled a later request of its chain.
--   is_named: another finding of the event names it.
--   was_ready: it is a linked timeout, and its target could have completed before the event.
pub record Circumstances : Type 0 where
  pub short_of_end : Bool
  pub severs_others : Bool
  pub is_named : Bool
  pub was_ready : Bool

-- Whether a verdict is the right one of a finding that is a fault exactly if a test holds.
abbrev pub is_verdict : Verdict → Bool → Bool
is_verdict Fault test = test
is_verdict Note test = not test

-- Whether completing with a result is a finding (io_uring_enter(2)):
--   Failed: the result is an error that no other kind covers.
--   Short: a READ or WRITE moved fewer bytes than requested. It is a fault if it was short of the
--     end of its file.
--   Severed: a soft-linked request failed or was short itself, and a later one of its chain was
--     canceled.
--   Canceled: the result is ECANCELED, and no other finding of the event names the request.
--   TimedOut: a LINK_TIMEOUT completed with ETIME. It is a fault if its target was canceled though it
--     could have completed.
--   Expired: a TIMEOUT completed with ETIME.
--   NotFound, TooLate: a cancel or removal completed with ENOENT or with EALREADY.
--   WentOn: a hard-linked request failed or was short, and its chain has another member besides a
--     linked timeout.
abbrev pub is_of : EndedKind → Circumstances → Option Row → Row → Option Row → ℤ → Bool
is_of Failed c before row next res = is_negative res && not (is_reported_apart row res)
is_of (Short verdict) c before row next res = (is_transfer row.entry.opcode && is_less res row.entry.len) && is_verdict verdict c.short_of_end
is_of Severed c before row next res = severs before row res && c.severs_others
is_of Canceled c before row next res = is_error 125 res && not c.is_named
is_of (TimedOut verdict) c before row next res = (is_guard row && is_error 62 res) && is_verdict verdict c.was_ready
is_of Expired c before row next res = (row.entry.opcode == 11) && is_error 62 res
is_of NotFound c before row next res = is_cancel row.entry.opcode && is_error 2 res
is_of TooLate c before row next res = is_cancel row.entry.opcode && is_error 114 res
is_of WentOn c before row next res = leaves_chain before row res && has_next row next

-- ---- submissions

-- Whether an entry sets a field that has no effect: ioprio, buf_index, personality or splice_fd_in.
abbrev pub has_idle_field : Sqe → Bool
has_idle_field entry = not (entry.ioprio == 0) || (not (entry.buf_index == 0) || (not (entry.personality == 0) || not (unsigned_abs entry.splice_fd_in == 0)))

-- Whether request q is one of the 32 before request r, is incomplete, and has a given user_data.
abbrev pub is_twin : ℕ → ℕ → ℕ → Row → Bool
is_twin r user q other = (nat_lt q r && nat_le r (q + 32)) && (is_open other && (other.entry.user_data == user))

-- Whether some such request has the user_data of request r. 0 doesn't count, since entries that
-- give none have it.
abbrev pub has_twin : List Row → ℕ → Row → Bool
has_twin rows r row = not (row.entry.user_data == 0) && any_numbered (is_twin r row.entry.user_data) rows

-- Whether submitting request r is a finding, by all requests after the event (io_uring_enter(2)):
--   CutOff: it is linked to a next entry that was not submitted with it.
--   NoEffect: a field of its entry has no effect.
--   SameUserData: one of the 32 requests before it is incomplete and has its user_data, so that
--     their completions can't be told apart.
abbrev pub comes_as : QueuedKind → List Row → ℕ → Row → Bool
comes_as CutOff rows r row = is_linked row.entry && is_none (slice_get rows (r + 1))
comes_as NoEffect rows r row = has_idle_field row.entry
comes_as SameUserData rows r row = has_twin rows r row

-- ---- tests of a request

-- Whether an event completes request r, and that is a finding. `before` is the request before the
-- event, and `rows` are all requests after it.
abbrev pub ended_test : EndedKind → Circumstances → Option Row → List Row → ℕ → Row → Bool
ended_test kind c before rows r row = option_map_or (is_of kind c before row (next_in rows r)) (ending_of before row) false

-- Whether an event submits request r, and that is a finding.
abbrev pub queued_test : QueuedKind → Option Row → List Row → ℕ → Row → Bool
queued_test kind before rows r row = is_none before && comes_as kind rows r row
