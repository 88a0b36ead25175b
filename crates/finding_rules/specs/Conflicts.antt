-- Conflicts between an event and incomplete READs and WRITEs: over their memory, or over a file
-- without an order.
use Rattle.std.specs.Prelude.{ℕ, ℤ, pos, ◌+◌, ◌-◌, ◌==◌, Bool, true, false, not, ◌&&◌, ◌||◌, nat_lt, min, max, if◌then◌else◌, Option, Some, None, slice_get, List, length, option_and_then}
use Rattle.finding_rules.specs.Common.{option_map_or, list_any, Sqe, Phase, Row, Contents, File, Descriptor, Object, Position, Value, Number, Event, Finish, Instruction, Store, Setup, is_at_position, is_issued, drains, is_before_in_unit, is_before_in_drain, is_open, is_transfer, number_in, view, Machine, Effect, Nothing, Stored, Finished, ConflictKind, BufferInUse, Unordered, SharedPosition, FsyncEarly, Fault, Note, Ended}
use Rattle.finding_rules.specs.Conditions.{done_by}

-- ---- the effect of an event

-- The effect of an instruction: a store writes bytes of memory.
abbrev pub effect_of : Option Instruction → Effect
effect_of (Some (Store address bytes)) = Stored address (length bytes)
effect_of _ = Nothing

-- The effect of completing a request: only a READ, WRITE or FSYNC can conflict.
abbrev pub finish_of : ℕ → Row → Effect
finish_of r row = if is_transfer row.entry.opcode || (row.entry.opcode == 3) then Finished r row else Nothing

-- The effect of completing request r, by the machine after it.
abbrev pub finished_in : Machine → ℕ → Effect
finished_in m r = option_map_or (finish_of r) (slice_get m.table r) Nothing

-- The effect of an event, by the instruction that it does, if any, and the machine after it.
abbrev pub done_as : Event → Option Instruction → Machine → Effect
done_as (Finish r c) x after = finished_in after r
done_as e x after = effect_of x

-- The effect of an event that leads from one machine to another.
abbrev pub done_at : Setup → Machine → Event → Machine → Effect
done_at s before e after = done_as e (done_by s before e) after

-- ---- ranges

-- Whether two ranges overlap, each given by its first number and its length.
abbrev pub meet : ℕ → ℕ → ℕ → ℕ → Bool
meet a n b m = nat_lt (max a b) (min (a + n) (b + m))

-- How many bytes a request moved; 0 if it is incomplete or failed.
abbrev pub moved : Phase → ℕ
moved (Ended (pos n)) = n
moved _ = 0

-- Whether a request completed without error.
abbrev pub is_good : Phase → Bool
is_good (Ended (pos n)) = true
is_good _ = false

-- Whether a range of memory overlaps the buffer of the request (read(2), write(2)).
abbrev pub is_in_buffer : ℕ → ℕ → Row → Bool
is_in_buffer address n row = meet address n row.entry.addr row.entry.len

-- ---- files

-- The number of an object, if it is a regular file.
abbrev pub file_number : ℕ → Contents → Option ℕ
file_number o (File bytes) = Some o
file_number o _ = None

-- The object of a descriptor, if it is a regular file.
abbrev pub file_of_descriptor : Setup → Descriptor → Option ℕ
file_of_descriptor s d = option_and_then (λ (o : Object). file_number d.object o.contents) (slice_get s.objects d.object)

-- The same by descriptor number. The lowest is 3, after the standard streams (stdin(3)).
abbrev pub file_numbered : Setup → ℕ → Option ℕ
file_numbered s fd = if nat_lt fd 3 then None else option_and_then (file_of_descriptor s) (slice_get s.fds (fd - 3))

-- The same for the fd field of an entry, which may be negative.
abbrev pub file_of : Setup → ℤ → Option ℕ
file_of s fd = option_and_then (file_numbered s) (number_in fd)

-- Whether both numbers are present and equal.
abbrev pub are_one : Option ℕ → Option ℕ → Bool
are_one (Some a) (Some b) = a == b
are_one _ _ = false

-- Whether two entries name the same file, even by different descriptors.
abbrev pub is_same_file : Setup → Sqe → Sqe → Bool
is_same_file s a b = are_one (file_of s a.fd) (file_of s b.fd)

-- Whether at least one of two entries is a WRITE.
abbrev pub is_one_write : Sqe → Sqe → Bool
is_one_write a b = (a.opcode == 23) || (b.opcode == 23)

-- Whether two entries use the position of the same descriptor of a file (lseek(2)).
abbrev pub is_by_position : Setup → Sqe → Sqe → Bool
is_by_position s a b = is_at_position a && (is_at_position b && (are_one (number_in a.fd) (number_in b.fd) && is_same_file s a b))

-- The number in an optional value, or 0.
abbrev pub number_or_zero : Option Value → ℕ
number_or_zero (Some (Number n)) = n
number_or_zero _ = 0

-- The position of the descriptor that an entry names.
abbrev pub position_at : Machine → Sqe → ℕ
position_at m entry = option_map_or (λ (fd : ℕ). number_or_zero (view m (Position fd))) (number_in entry.fd) 0

-- The file offset at which a transfer of n bytes began: its offset, or n bytes before the current
-- position (pread(2), pwrite(2)).
abbrev pub begins : Machine → ℕ → Sqe → ℕ
begins m n entry = if is_at_position entry then position_at m entry - n else entry.off

-- Whether the offset of a request is known. One without an offset begins at the current position,
-- but only once it is issued.
abbrev pub is_placed : Row → Bool
is_placed row = not (is_at_position row.entry) || is_issued row.phase

-- Whether the file range that a completed request moved overlaps the range of another, and they
-- don't share one position.
abbrev pub is_over : Setup → Machine → ℕ → Sqe → Row → Bool
is_over s m n done row = (is_placed row && not (is_by_position s done row.entry)) && meet (begins m n done) n (begins m 0 row.entry) row.entry.len

-- ---- order

-- Whether x is an incomplete request of a draining chain between the chains of two others: the
-- later waits for it, and it waits for the earlier.
abbrev pub is_between : List Row → Row → Row → Row → Bool
is_between rows row other x = (nat_lt other.unit x.unit && nat_lt x.unit row.unit) && (is_open x && drains rows x.unit)

-- Whether a draining chain between the two orders `row` after `other`.
abbrev pub is_after_barrier : List Row → Row → Row → Bool
is_after_barrier rows row other = list_any (is_between rows row other) rows

-- Whether request q is ordered after request r: by their chain, by a drain of either chain, or by a
-- draining chain between them (io_uring_enter(2), IOSQE_IO_LINK and IOSQE_IO_DRAIN).
abbrev pub is_ordered_after : List Row → ℕ → Row → ℕ → Row → Bool
is_ordered_after rows q row r other = is_before_in_unit q row r other || (is_before_in_drain rows row other || is_after_barrier rows row other)

-- ---- kinds

-- Whether the request is an incomplete READ or WRITE.
abbrev pub is_candidate : Row → Bool
is_candidate row = is_transfer row.entry.opcode && is_open row

-- Whether an FSYNC completed without error before an earlier WRITE of at least one byte to its file
-- (fsync(2)).
abbrev pub is_synced_early : Setup → ℕ → Row → ℕ → Row → Bool
is_synced_early s r done q row = (done.entry.opcode == 3) && (is_good done.phase && (nat_lt q r && ((row.entry.opcode == 23) && (nat_lt 0 row.entry.len && is_same_file s done.entry row.entry))))

-- Whether the completion of request r conflicts with request q, an incomplete READ or WRITE,
-- whatever their order:
--   BufferInUse: r is a READ that moved bytes into q's buffer.
--   Unordered: the file range that r moved overlaps that of q, if q's offset is known, and one of
--     the two is a WRITE.
--   SharedPosition: r moved bytes at the position at which q begins, and q asks for at least one.
--   FsyncEarly: r is an FSYNC of q's file without error, and q is an earlier WRITE of at least one
--     byte. It is a note until the end of the run decides.
abbrev pub would_conflict : ConflictKind → Setup → Machine → ℕ → Row → ℕ → Row → Bool
would_conflict BufferInUse s m r done q row = (done.entry.opcode == 22) && is_in_buffer done.entry.addr (moved done.phase) row
would_conflict Unordered s m r done q row = is_one_write done.entry row.entry && (is_over s m (moved done.phase) done.entry row && is_same_file s done.entry row.entry)
would_conflict SharedPosition s m r done q row = (nat_lt 0 (moved done.phase) && nat_lt 0 row.entry.len) && is_by_position s done.entry row.entry
would_conflict (FsyncEarly Fault) s m r done q row = false
would_conflict (FsyncEarly Note) s m r done q row = is_synced_early s r done q row

-- Whether a store to memory conflicts with an incomplete READ or WRITE:
--   BufferInUse: the bytes are in its buffer.
abbrev pub is_stored_over : ConflictKind → ℕ → ℕ → Row → Bool
is_stored_over BufferInUse address n row = is_in_buffer address n row
is_stored_over kind address n row = false

-- Whether the effect of an event conflicts with request q, which is not ordered after the request
-- that completes.
abbrev pub is_conflict : ConflictKind → Setup → Machine → Effect → ℕ → Row → Bool
is_conflict kind s m Nothing q row = false
is_conflict kind s m (Stored address n) q row = is_stored_over kind address n row
is_conflict kind s m (Finished r done) q row = would_conflict kind s m r done q row && not (is_ordered_after m.table q row r done)

-- Whether request q is an incomplete READ or WRITE with which the effect of an event conflicts.
abbrev pub conflicts : ConflictKind → Setup → Machine → Effect → ℕ → Row → Bool
conflicts kind s m effect q row = is_candidate row && is_conflict kind s m effect q row

-- Whether an event that leads from one machine to another is a finding about request q.
abbrev pub clashes : Setup → ConflictKind → Machine → Event → Machine → ℕ → Bool
clashes s kind before e after q = option_map_or (conflicts kind s after (done_at s before e after) q) (slice_get after.table q) false
