-- The result of an issued request, which depends on the state and on the kernel's choice (read(2),
-- write(2), fsync(2), pipe(7), eventfd(2), poll(2), io_uring_enter(2)).
use Rattle.std.specs.Prelude.{ℕ, ℤ, pos, negsuc, ◌+◌, ◌-◌, ◌^◌, ◌==◌, ◌&&◌, ◌||◌, not, nat_lt, nat_le, min, unwrap_or, Bool, true, false, Option, Some, None, if◌then◌else◌, bit_and, bit_or}
use Rattle.std.specs.Option.{option_and_then}
use Rattle.entries.specs.declared.entry.Sqe.{Sqe}
use Rattle.entries.specs.declared.row.Row.{Row}
use Rattle.model_files.specs.declared.descriptor.DescriptorState.{DescriptorState}
use Rattle.model_files.specs.declared.stock.Stock.{Stock}
use Rattle.model_files.specs.declared.stock.Stock.TheVariants.{File, Pipe, EventFd}
use Rattle.model_files.specs.Ends.{has_reader, has_writer, mask_of_descriptor}
use Rattle.model_files.specs.Worlds.{WorldState, descriptor_of, number_at, stock_of}
use Rattle.entries.specs.declared.choice.Choice.{Choice}
use Rattle.entries.specs.declared.choice.Choice.TheVariants.{Full, Short, Eio}
use Rattle.opcodes.specs.declared.op.Op.{Op}
use Rattle.opcodes.specs.declared.op.Op.TheVariants.{Nop, Fsync, PollAdd, Read, Write}
use Rattle.opcodes.specs.declared.ending.Outcome.{Outcome}
use Rattle.opcodes.specs.declared.ending.Outcome.TheVariants.{Res, Waits, BadChoice}
use Rattle.opcodes.specs.Check.{op_of}
use Rattle.opcodes.specs.Opcodes.{always_runs, runs_on_file}

-- ---- The descriptor of a request

abbrev pub held_descriptor : WorldState → Row → Option DescriptorState
held_descriptor w row = option_and_then (descriptor_of w) row.held

-- How much the descriptor's object holds.
abbrev pub stock_at : WorldState → Option DescriptorState → Option Stock
stock_at w None = None
stock_at w (Some d) = stock_of w d.object

abbrev pub position_of : Option DescriptorState → ℕ
position_of None = 0
position_of (Some d) = unwrap_or d.position 0

-- Whether the descriptor's pipe has a writer, or a reader. `held` says which descriptors are held
-- by requests in flight.
abbrev pub has_writer_at : (ℕ → Bool) → WorldState → Option DescriptorState → Bool
has_writer_at held w None = false
has_writer_at held w (Some d) = has_writer held w d.object

abbrev pub has_reader_at : (ℕ → Bool) → WorldState → Option DescriptorState → Bool
has_reader_at held w None = false
has_reader_at held w (Some d) = has_reader held w d.object

-- ---- Running requests

abbrev pub is_file : Option Stock → Bool
is_file None = false
is_file (Some (File len)) = true
is_file (Some (Pipe filled capacity)) = false
is_file (Some (EventFd counter)) = false

-- Whether an issued request is running, so that a cancel finds it but can't stop it. A POLL_ADD, a
-- TIMEOUT, and a READ or WRITE of a pipe or an eventfd wait instead.
abbrev pub is_running : WorldState → Row → Bool
is_running w row =
    always_runs row.entry.opcode
    || (runs_on_file row.entry.opcode && is_file (stock_at w (held_descriptor w row)))

-- ---- Results

-- A result for which the kernel has no other choice.
abbrev pub fixed : ℤ → Choice → Outcome
fixed res Full = Res res
fixed res (Short n) = BadChoice
fixed res Eio = BadChoice

-- The number in a result that is no error.
abbrev pub count_in : Outcome → Option ℕ
count_in (Res (pos n)) = Some n
count_in (Res (negsuc n)) = None
count_in Waits = None
count_in BadChoice = None

-- The result of a transfer of at most k bytes: k, or fewer but at least 1, or -EIO if the device
-- fails.
abbrev pub transferred : ℕ → Choice → Outcome
transferred k Full = Res (pos k)
transferred k (Short n) = if nat_lt 0 n && nat_lt n k then Res (pos n) else BadChoice
transferred k Eio = Res (negsuc 4)

-- Whether the entry's buffer exceeds the memory. All `len` bytes count, even if fewer would be
-- transferred, and this check comes first.
abbrev pub passes_memory : Sqe → Bool
passes_memory entry = nat_lt 65536 (entry.addr + entry.len)

-- An offset of 2 ^ 64 - 1, which is -1 as a signed number, means the file position.
abbrev pub is_at_position : Sqe → Bool
is_at_position entry = entry.off == 2 ^ 64 - 1

-- Any other offset is invalid if it is negative as a signed number.
abbrev pub is_bad_offset : Sqe → Bool
is_bad_offset entry = nat_le (2 ^ 63) entry.off && not (is_at_position entry)

-- The offset at which a transfer begins.
abbrev pub offset_of : Sqe → ℕ → ℕ
offset_of entry position = if is_at_position entry then position else entry.off

-- ---- Files

abbrev pub file_synced : Choice → Outcome
file_synced Full = Res (pos 0)
file_synced (Short n) = BadChoice
file_synced Eio = Res (negsuc 4)

-- A READ transfers at most `len` bytes, up to the end of the file.
abbrev pub file_read : Sqe → ℕ → ℕ → Choice → Outcome
file_read entry position len c =
    if is_bad_offset entry then fixed (negsuc 21) c
    else transferred (min entry.len (len - offset_of entry position)) c

-- A WRITE transfers at most `len` bytes, up to the maximum size of a file.
abbrev pub file_written : Sqe → ℕ → Choice → Outcome
file_written entry position c =
    if is_bad_offset entry then fixed (negsuc 21) c
    else if entry.len == 0 then fixed (pos 0) c
    else if nat_le 65536 (offset_of entry position) then fixed (negsuc 26) c
    else transferred (min entry.len (65536 - offset_of entry position)) c

-- ---- Pipes: a READ of an empty pipe waits while the pipe has a writer

abbrev pub pipe_read : ℕ → Bool → ℕ → Choice → Outcome
pipe_read len writer filled c =
    if len == 0 then fixed (pos 0) c
    else if filled == 0 then (if writer then Waits else fixed (pos 0) c)
    else fixed (pos (min len filled)) c

-- The largest write that is atomic: 4,096 bytes (PIPE_BUF), or the capacity if that is smaller.
abbrev pub at_once : ℕ → ℕ
at_once capacity = min 4096 capacity

-- An atomic WRITE waits until all its bytes fit, a longer one until any byte fits.
abbrev pub waits_for_room : ℕ → ℕ → ℕ → Bool
waits_for_room len room capacity =
    if nat_le len (at_once capacity) then nat_lt room len else room == 0

abbrev pub pipe_written : ℕ → Bool → ℕ → ℕ → Choice → Outcome
pipe_written len reader filled capacity c =
    if len == 0 then fixed (pos 0) c
    else if not reader then fixed (negsuc 31) c
    else if waits_for_room len (capacity - filled) capacity then Waits
    else fixed (pos (min len (capacity - filled))) c

-- ---- Eventfds: a READ waits while the counter is 0, a WRITE while the sum exceeds 2 ^ 64 - 2

abbrev pub event_read : ℕ → ℕ → Choice → Outcome
event_read len counter c =
    if nat_lt len 8 then fixed (negsuc 21) c
    else if counter == 0 then Waits
    else fixed (pos 8) c

abbrev pub event_written : ℕ → ℕ → ℕ → Choice → Outcome
event_written len counter number c =
    if nat_lt len 8 then fixed (negsuc 21) c
    else if number == 2 ^ 64 - 1 then fixed (negsuc 21) c
    else if nat_lt (2 ^ 64 - 2) (counter + number) then Waits
    else fixed (pos 8) c

-- ---- By opcode

-- The outcome of an FSYNC: -EINVAL for a pipe or an eventfd.
abbrev pub fsync_outcome : Option Stock → Choice → Outcome
fsync_outcome None c = BadChoice
fsync_outcome (Some (File len)) c = file_synced c
fsync_outcome (Some (Pipe filled capacity)) c = fixed (negsuc 21) c
fsync_outcome (Some (EventFd counter)) c = fixed (negsuc 21) c

-- The requested events that are ready. POLLERR (8) and POLLHUP (16) are always reported.
abbrev pub ready_of : Sqe → ℕ → ℕ
ready_of entry mask = bit_and mask (bit_or entry.operation_flags 24)

-- The outcome of a POLL_ADD. It waits until a requested event is ready.
abbrev pub poll_outcome : Sqe → ℕ → Choice → Outcome
poll_outcome entry mask c =
    if ready_of entry mask == 0 then Waits else fixed (pos (ready_of entry mask)) c

-- The outcome of a READ, after the check of its buffer.
abbrev pub read_outcome : Sqe → ℕ → Bool → Option Stock → Choice → Outcome
read_outcome entry position writer None c = BadChoice
read_outcome entry position writer (Some (File len)) c = file_read entry position len c
read_outcome entry position writer (Some (Pipe filled capacity)) c =
    pipe_read entry.len writer filled c
read_outcome entry position writer (Some (EventFd counter)) c = event_read entry.len counter c

-- The outcome of a WRITE, after the check of its buffer. `number` is the 64-bit number in the
-- buffer.
abbrev pub write_outcome : Sqe → ℕ → Bool → ℕ → Option Stock → Choice → Outcome
write_outcome entry position reader number None c = BadChoice
write_outcome entry position reader number (Some (File len)) c = file_written entry position c
write_outcome entry position reader number (Some (Pipe filled capacity)) c =
    pipe_written entry.len reader filled capacity c
write_outcome entry position reader number (Some (EventFd counter)) c =
    event_written entry.len counter number c

-- Only these opcodes complete by a choice. The result of an ASYNC_CANCEL, POLL_REMOVE or
-- TIMEOUT_REMOVE depends on the other requests, and is not defined here.
abbrev pub outcome_on : (ℕ → Bool) → WorldState → Sqe → Option Op → Option DescriptorState → Choice
    → Outcome
outcome_on held w entry (Some Nop) d c = fixed (pos 0) c
outcome_on held w entry (Some Fsync) d c = fsync_outcome (stock_at w d) c
outcome_on held w entry (Some PollAdd) d c = poll_outcome entry (mask_of_descriptor held w d) c
outcome_on held w entry (Some Read) d c =
    if passes_memory entry then fixed (negsuc 13) c
    else read_outcome entry (position_of d) (has_writer_at held w d) (stock_at w d) c
outcome_on held w entry (Some Write) d c =
    if passes_memory entry then fixed (negsuc 13) c
    else write_outcome entry (position_of d) (has_reader_at held w d) (number_at w entry.addr)
    (stock_at w d) c
outcome_on held w entry op d c = BadChoice

-- The result of a request. `held` says which descriptors are held by requests in flight.
abbrev pub outcome_of : (ℕ → Bool) → WorldState → Row → Choice → Outcome
outcome_of held w row c =
    outcome_on held w row.entry (op_of row.entry.opcode) (held_descriptor w row) c
