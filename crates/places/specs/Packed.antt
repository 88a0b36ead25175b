-- The packed form of a change: a head, an index, and the old value. An old number follows as it
-- is, the numbers of another value as a frame. All are in the compact encoding of integers.
use Rattle.std.specs.Prelude.{◌≡◌, ℕ, ◌+◌, ◌-◌, ◌/◌, ◌%◌, ◌^◌, ◌==◌, List, [], ◌++◌, Option, Some, None, if◌then◌else◌}
use Rattle.std.specs.Int.{w32, cast_signed, cast_unsigned}
use Rattle.byteorder.specs.Endian.{little_bytes}
use Rattle.entries.specs.declared.completion.Cqe.{Cqe}
use Rattle.entries.specs.declared.entry.Sqe.{Sqe}
use Rattle.entries.specs.declared.row.Phase.{Phase}
use Rattle.entries.specs.declared.row.Phase.TheVariants.{Queued, Issued, Ended}
use Rattle.entries.specs.declared.row.Row.{Row}
use Rattle.places.specs.declared.value.Stage.{Stage}
use Rattle.places.specs.declared.value.Stage.TheVariants.{Ready, Waiting}
use Rattle.places.specs.declared.value.Value.{Value}
use Rattle.places.specs.declared.value.Value.TheVariants.{Number, Signed, Entry, Completed, Requested, Staged, Reaped, Awake}
use Rattle.places.specs.declared.value.Change.{Change}
use Rattle.places.specs.PlaceNumbers.{place_of}
use Rattle.compact_size.specs.Reading.{read_all, Reads}
use Rattle.compact_size.specs.CompactSizes.{number_of, after, after_many, byte_of, half_of, word_of, signed_of, long_of}
use Rattle.compact_size.specs.Frames.{framed, past_frame}

-- ---- Small values as numbers, and back

-- 0 for `None`, n + 1 for n.
abbrev pub option_number : Option ℕ → ℕ
option_number None = 0
option_number (Some n) = n + 1

abbrev pub option_from : ℕ → Option ℕ
option_from n = if n == 0 then None else Some (n - 1)

abbrev pub word_from : ℕ → Option ℕ
word_from n = if n == 0 then None else Some ((n - 1) % 2 ^ 32)

abbrev pub phase_number : Phase → ℕ
phase_number Queued = 0
phase_number Issued = 1
phase_number (Ended result) = cast_unsigned w32 result + 2

abbrev pub phase_from : ℕ → Phase
phase_from n = if n == 0 then Queued else (if n == 1 then Issued else Ended (cast_signed w32 ((n - 2) % 2 ^ 32)))

abbrev pub stage_from : ℕ → ℕ → Stage
stage_from n needed = if n == 0 then Ready else Waiting ((n - 1) % 2 ^ 32) needed

-- ---- Values read from bytes

abbrev pub completion_of : List ℕ → Cqe
completion_of bytes = record {
  user_data = number_of bytes;
  res = signed_of (after_many 1 bytes);
  flags = word_of (after_many 2 bytes);
}

unfoldable pub entry_of : List ℕ → Sqe
entry_of bytes = record {
  user_data = number_of bytes;
  opcode = byte_of (after_many 1 bytes);
  fd = signed_of (after_many 2 bytes);
  len = word_of (after_many 3 bytes);
  addr = number_of (after_many 4 bytes);
  off = number_of (after_many 5 bytes);
  flags = byte_of (after_many 6 bytes);
  operation_flags = word_of (after_many 7 bytes);
  ioprio = half_of (after_many 8 bytes);
  buf_index = half_of (after_many 9 bytes);
  personality = half_of (after_many 10 bytes);
  splice_fd_in = signed_of (after_many 11 bytes);
  rest = little_bytes 8 (number_of (after_many 12 bytes)) ++ little_bytes 8 (number_of (after_many 13 bytes));
}

unfoldable pub row_of : List ℕ → Row
row_of bytes = record {
  unit = word_of bytes;
  phase = phase_from (number_of (after_many 1 bytes));
  entry = entry_of (after_many 2 bytes);
  held = word_from (number_of (after_many 16 bytes));
  base = word_of (after_many 17 bytes);
  time = option_from (number_of (after_many 18 bytes));
  deadline = option_from (number_of (after_many 19 bytes));
  target = word_from (number_of (after_many 20 bytes));
}

abbrev pub stage_of : List ℕ → Stage
stage_of bytes = stage_from (number_of bytes) (word_of (after_many 1 bytes))

abbrev pub reaped_of : List ℕ → Option Cqe
reaped_of bytes = if number_of bytes == 0 then None else Some (completion_of (after_many 1 bytes))

-- ---- Changes

-- The value in a frame, by its shape. The shapes are: absent, number, signed number, entry,
-- completion, row, stage, last reaped completion, poller awake. The first two have no frame.
unfoldable pub framed_value : ℕ → List ℕ → Value
framed_value s bytes =
    if s == 2 then Signed (long_of bytes) else (
    if s == 3 then Entry (entry_of bytes) else (
    if s == 4 then Completed (completion_of bytes) else (
    if s == 5 then Requested (row_of bytes) else (
    if s == 6 then Staged (stage_of bytes) else (
    if s == 7 then Reaped (reaped_of bytes) else Awake (number_of bytes == 1))))))

-- Bytes that are read as the numbers `xs` hold the value `v` in this shape.
abbrev pub Spells : ℕ → List ℕ → Value → Type 0
Spells s xs v = (bytes : List ℕ) → Reads number_of after bytes xs [] → framed_value s bytes ≡ v

-- The old value at the start of the bytes.
unfoldable pub value_of_shape : ℕ → List ℕ → Option Value
value_of_shape s bytes =
    if s == 0 then None else (
    if s == 1 then Some (Number (number_of bytes)) else Some (framed_value s (framed bytes)))

-- The bytes after that value.
unfoldable pub after_value : ℕ → List ℕ → List ℕ
after_value s bytes = if s == 0 then bytes else (if s == 1 then after bytes else past_frame bytes)

-- A head is the kind of the place plus 30 times the shape of the old value.
abbrev pub kind_from : ℕ → ℕ
kind_from head = head % 30

abbrev pub shape_from : ℕ → ℕ
shape_from head = head / 30

-- The change at the start of the bytes.
unfoldable pub change_of : List ℕ → Change
change_of bytes = record {
  place = place_of (kind_from (number_of bytes)) (word_of (after_many 1 bytes)) 0;
  old = value_of_shape (shape_from (number_of bytes)) (after_many 2 bytes);
}

-- The bytes after that change.
unfoldable pub after_change : List ℕ → List ℕ
after_change bytes = after_value (shape_from (number_of bytes)) (after_many 2 bytes)

-- The changes in bytes that begin with twice their number, plus 1 if undoing them may remove
-- elements.
abbrev pub packed : List ℕ → List Change
packed bytes = read_all change_of after_change (number_of bytes / 2) (after bytes)
