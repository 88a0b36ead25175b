-- The checks of an entry at submission (io_uring_enter(2)): first its flags, then its opcode, then
-- what the opcode requires. The first check that fails determines the error.
use Rattle.std.specs.Prelude.{ℕ, ℤ, negsuc, ◌+◌, ◌*◌, ◌^◌, ◌==◌, Bool, true, false, not, ◌&&◌, nat_lt, nat_le, Option, Some, None, is_ok, is_some, Result, Ok, Err, if◌then◌else◌, bit_and}
use Rattle.entries.specs.declared.entry.Sqe.{Sqe}
use Rattle.model_files.specs.Worlds.{WorldState, number_at}
use Rattle.opcodes.specs.declared.op.Op.{Op}
use Rattle.opcodes.specs.declared.op.Op.TheVariants.{Nop, Fsync, PollAdd, PollRemove, Timeout, TimeoutRemove, AsyncCancel, LinkTimeout, Read, Write}
use Rattle.opcodes.specs.Opcodes.{is_timer}

-- -EINVAL (errno(3)).
abbrev pub invalid : Result Op ℤ
invalid = Err (negsuc 21)

-- -EFAULT (errno(3)).
abbrev pub bad_address : Result Op ℤ
bad_address = Err (negsuc 13)

-- All entry flags except IOSQE_IO_DRAIN (2), IOSQE_IO_LINK (4), IOSQE_IO_HARDLINK (8) and
-- IOSQE_ASYNC (16).
abbrev pub refused_flags : ℕ
refused_flags = 225

-- The supported opcodes.
abbrev pub op_of : ℕ → Option Op
op_of opcode =
    if opcode == 0 then Some Nop else
    if opcode == 3 then Some Fsync else
    if opcode == 6 then Some PollAdd else
    if opcode == 7 then Some PollRemove else
    if opcode == 11 then Some Timeout else
    if opcode == 12 then Some TimeoutRemove else
    if opcode == 14 then Some AsyncCancel else
    if opcode == 15 then Some LinkTimeout else
    if opcode == 22 then Some Read else
    if opcode == 23 then Some Write else
    None

-- ---- Times

-- Whether an opcode has a time.
abbrev pub has_time : Op → Bool
has_time Timeout = true
has_time LinkTimeout = true
has_time _ = false

-- The time at an address, in nanoseconds. It is stored as two signed 64-bit numbers, seconds and
-- nanoseconds (timespec(3)). There is none if one of them is negative.
abbrev pub time_at : WorldState → ℕ → Option ℕ
time_at w addr =
    if nat_lt (number_at w addr) (2 ^ 63) && nat_lt (number_at w (addr + 8)) (2 ^ 63)
    then Some (number_at w addr * 1000000000 + number_at w (addr + 8))
    else None

-- The checks of an entry with a time. The only supported flag is IORING_TIMEOUT_ABS (1). All 16
-- bytes of the time have to be in memory.
abbrev pub timed : WorldState → Sqe → Op → Result Op ℤ
timed w entry op =
    if not (entry.len == 1) then invalid else
    if nat_lt 1 entry.operation_flags then invalid else
    if nat_lt 65536 (entry.addr + 16) then bad_address else
    if is_some (time_at w entry.addr) then Ok op else
    invalid

-- Whether a LINK_TIMEOUT can follow an entry with this opcode in its chain. It can neither follow
-- another LINK_TIMEOUT nor be first.
abbrev pub can_guard : Option ℕ → Bool
can_guard None = false
can_guard (Some opcode) = not (opcode == 15)

-- ---- The checks

-- The checks of each opcode. IORING_FSYNC_DATASYNC (1) is allowed, and changes nothing. The length
-- of a POLL_ADD or POLL_REMOVE has command flags, none of which is supported. The supported flags
-- of an ASYNC_CANCEL are IORING_ASYNC_CANCEL_ALL (1) and IORING_ASYNC_CANCEL_FD (2).
abbrev pub tested : WorldState → Option ℕ → Sqe → Op → Result Op ℤ
tested w previous entry Nop = Ok Nop
tested w previous entry Fsync = if nat_le entry.operation_flags 1 then Ok Fsync else invalid
tested w previous entry PollAdd = if entry.len == 0 then Ok PollAdd else invalid
tested w previous entry PollRemove =
    if (entry.len == 0) && (entry.operation_flags == 0) then Ok PollRemove else invalid
tested w previous entry Timeout = timed w entry Timeout
tested w previous entry TimeoutRemove =
    if entry.operation_flags == 0 then Ok TimeoutRemove else invalid
tested w previous entry AsyncCancel =
    if nat_le entry.operation_flags 3 then Ok AsyncCancel else invalid
tested w previous entry LinkTimeout =
    if can_guard previous && (entry.off == 0) then timed w entry LinkTimeout else invalid
tested w previous entry Read = if entry.operation_flags == 0 then Ok Read else invalid
tested w previous entry Write = if entry.operation_flags == 0 then Ok Write else invalid

-- The result of the checks after the flags. `previous` is the opcode of the previous entry in the
-- chain.
abbrev pub row_of : WorldState → Option ℕ → Sqe → Option Op → Result Op ℤ
row_of w previous entry None = invalid
row_of w previous entry (Some op) = tested w previous entry op

-- The result of all checks: the opcode, or a negated error number.
abbrev pub check_of : WorldState → Option ℕ → Sqe → Result Op ℤ
check_of w previous entry =
    if bit_and entry.flags refused_flags == 0 then row_of w previous entry (op_of entry.opcode)
    else invalid

-- The time of a TIMEOUT or LINK_TIMEOUT that passes the checks.
abbrev pub time_of : WorldState → Option ℕ → Sqe → Option ℕ
time_of w previous entry =
    if is_timer entry.opcode && is_ok (check_of w previous entry) then time_at w entry.addr else None
