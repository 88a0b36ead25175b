-- What a finding about a completed request depends on besides the request.
use Rattle.std.specs.Prelude.{ℕ, ◌+◌, ◌==◌, Bool, false, not, ◌&&◌, ◌||◌, nat_lt, Option, is_none, slice_get, List}
use Rattle.finding_rules.specs.Common.{option_map_or, Full, Sqe, Row, FileLength, Event, Finish, Expire, Setup, is_number, is_guard, any_numbered, refusal, view, Machine, Member}
use Rattle.finding_rules.specs.{Conflicts.begins, Conflicts.file_of, Conflicts.moved, Conflicts.number_or_zero, Endings.Circumstances, Endings.ending_of, Endings.is_error, Endings.result_in, Endings.severs}

-- ---- short transfers (read(2), write(2))

-- Whether the n bytes that a transfer moved ended before the end of a file, by the machine after it.
abbrev pub ends_before : Machine → ℕ → Sqe → ℕ → Bool
ends_before m n entry o = nat_lt (begins m n entry + n) (number_or_zero (view m (FileLength o)))

-- Whether a request is a WRITE, or a READ of a regular file that stopped before the file's end.
abbrev pub is_short_of_end : Setup → Machine → Row → Bool
is_short_of_end s m row = (row.entry.opcode == 23) || option_map_or (ends_before m (moved row.phase) row.entry) (file_of s row.entry.fd) false

-- ---- chains (io_uring_enter(2), IOSQE_IO_LINK)

-- Whether an event completes the request, and it severs its chain.
abbrev pub is_severing : Option Row → Row → Bool
is_severing before row = option_map_or (severs before row) (ending_of before row) false

-- Whether an event cancels the request, so that it completes with ECANCELED, and it is no linked
-- timeout.
abbrev pub cancels : Option Row → Row → Bool
cancels before row = not (is_guard row) && option_map_or (is_error 125) (ending_of before row) false

-- The number and the chain of request r.
abbrev pub member_of : ℕ → Row → Member
member_of r row = record { number = r; unit = row.unit }

-- Whether the second request is a later one of the first one's chain.
abbrev pub is_later : Member → Member → Bool
is_later x y = nat_lt x.number y.number && (y.unit == x.unit)

-- Whether some request passes two tests: of the request before and after an event, and of its number
-- and chain. `was` are all requests before the event, and `rows` all after it.
abbrev pub any_passes : (Option Row → Row → Bool) → (Member → Bool) → List Row → List Row → Bool
any_passes test fits was rows = any_numbered (λ r row. test (slice_get was r) row && fits (member_of r row)) rows

-- Whether the event canceled a later request of x's chain.
abbrev pub severs_others : List Row → List Row → Member → Bool
severs_others was rows x = any_passes cancels (is_later x) was rows

-- Whether an earlier request severed x's chain in the event, and a later one than that was canceled.
abbrev pub is_severed : List Row → List Row → Member → Bool
is_severed was rows x = any_passes is_severing (λ y. is_later y x && severs_others was rows y) was rows

-- ---- linked timeouts (io_uring_enter(2), IORING_OP_LINK_TIMEOUT)

-- Whether the event is the expiry of request r.
abbrev pub is_expiry_of : ℕ → Event → Bool
is_expiry_of r (Expire g) = g == r
is_expiry_of r e = false

-- Whether a request is the linked timeout of request r.
abbrev pub limits : ℕ → Row → Bool
limits r row = is_guard row && is_number row.target r

-- Whether the event is the expiry of the linked timeout of request r.
abbrev pub expires_over : List Row → Event → ℕ → Bool
expires_over rows (Expire g) r = option_map_or (limits r) (slice_get rows g) false
expires_over rows e r = false

-- Whether request r could complete in full.
abbrev pub could_finish : Machine → ℕ → Bool
could_finish m r = is_none (refusal m (Finish r Full))

-- Whether a request is a linked timeout whose target could complete in full.
abbrev pub has_ready_target : Machine → Row → Bool
has_ready_target m row = is_guard row && option_map_or (could_finish m) row.target false

-- Whether the event is the expiry of such a linked timeout.
abbrev pub expires_over_ready : Machine → Event → Bool
expires_over_ready m (Expire g) = option_map_or (has_ready_target m) (slice_get m.table g) false
expires_over_ready m e = false

-- Whether a request completed with ECANCELED.
abbrev pub was_canceled : Row → Bool
was_canceled row = option_map_or (is_error 125) (result_in row.phase) false

-- Whether the target of a request completed with ECANCELED, by all requests after the event.
abbrev pub has_canceled_target : List Row → Row → Bool
has_canceled_target rows row = option_map_or (λ t. option_map_or was_canceled (slice_get rows t) false) row.target false

-- ---- all of them

-- The circumstances in which an event completes request r.
abbrev pub circumstances : Setup → Machine → Event → Machine → ℕ → Row → Circumstances
circumstances s before e after r row = record {
  short_of_end = is_short_of_end s after row;
  severs_others = severs_others before.table after.table (member_of r row);
  is_named = is_severed before.table after.table (member_of r row) || expires_over after.table e r;
  was_ready = is_expiry_of r e && (expires_over_ready before e && has_canceled_target after.table row);
}
