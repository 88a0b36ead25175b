-- The kind and indexes of a place, what it holds, and its limits.
use Rattle.std.specs.Prelude.{ℕ, ◌<◌, ◌==◌, ◌&&◌, Bool, true, false}
use Rattle.places.specs.declared.place.Place.{Place}
use Rattle.places.specs.declared.place.Place.TheVariants.{SubmissionHead, SubmissionTail, SubmissionFlags, SubmissionDropped, CompletionHead, CompletionTail, Array, Slot, Completion, MemoryByte, FileByte, DurableByte, FileLength, DurableLength, Position, OpenMark, PipeByte, PutCount, TakenCount, EventCount, Request, Backlog, BacklogFront, Clock, Counted, PollerStage, ProgramCounter, ThreadStage, Last, Got}

-- The number of the place's kind.
abbrev pub kind_of : Place → ℕ
kind_of SubmissionHead = 0
kind_of SubmissionTail = 1
kind_of SubmissionFlags = 2
kind_of SubmissionDropped = 3
kind_of CompletionHead = 4
kind_of CompletionTail = 5
kind_of (Array i) = 6
kind_of (Slot i) = 7
kind_of (Completion i) = 8
kind_of (MemoryByte a) = 9
kind_of (FileByte o i) = 10
kind_of (DurableByte o i) = 11
kind_of (FileLength o) = 12
kind_of (DurableLength o) = 13
kind_of (Position f) = 14
kind_of (OpenMark f) = 15
kind_of (PipeByte o i) = 16
kind_of (PutCount o) = 17
kind_of (TakenCount o) = 18
kind_of (EventCount o) = 19
kind_of (Request i) = 20
kind_of (Backlog i) = 21
kind_of BacklogFront = 22
kind_of Clock = 23
kind_of Counted = 24
kind_of PollerStage = 25
kind_of (ProgramCounter t) = 26
kind_of (ThreadStage t) = 27
kind_of (Last t) = 28
kind_of (Got t) = 29

-- The number of its object, descriptor, thread, slot or address, or 0.
abbrev pub index_of : Place → ℕ
index_of SubmissionHead = 0
index_of SubmissionTail = 0
index_of SubmissionFlags = 0
index_of SubmissionDropped = 0
index_of CompletionHead = 0
index_of CompletionTail = 0
index_of (Array i) = i
index_of (Slot i) = i
index_of (Completion i) = i
index_of (MemoryByte a) = a
index_of (FileByte o i) = o
index_of (DurableByte o i) = o
index_of (FileLength o) = o
index_of (DurableLength o) = o
index_of (Position f) = f
index_of (OpenMark f) = f
index_of (PipeByte o i) = o
index_of (PutCount o) = o
index_of (TakenCount o) = o
index_of (EventCount o) = o
index_of (Request i) = i
index_of (Backlog i) = i
index_of BacklogFront = 0
index_of Clock = 0
index_of Counted = 0
index_of PollerStage = 0
index_of (ProgramCounter t) = t
index_of (ThreadStage t) = t
index_of (Last t) = t
index_of (Got t) = t

-- The index of a byte within its object, or 0.
abbrev pub second_of : Place → ℕ
second_of SubmissionHead = 0
second_of SubmissionTail = 0
second_of SubmissionFlags = 0
second_of SubmissionDropped = 0
second_of CompletionHead = 0
second_of CompletionTail = 0
second_of (Array i) = 0
second_of (Slot i) = 0
second_of (Completion i) = 0
second_of (MemoryByte a) = 0
second_of (FileByte o i) = i
second_of (DurableByte o i) = i
second_of (FileLength o) = 0
second_of (DurableLength o) = 0
second_of (Position f) = 0
second_of (OpenMark f) = 0
second_of (PipeByte o i) = i
second_of (PutCount o) = 0
second_of (TakenCount o) = 0
second_of (EventCount o) = 0
second_of (Request i) = 0
second_of (Backlog i) = 0
second_of BacklogFront = 0
second_of Clock = 0
second_of Counted = 0
second_of PollerStage = 0
second_of (ProgramCounter t) = 0
second_of (ThreadStage t) = 0
second_of (Last t) = 0
second_of (Got t) = 0

-- Whether two places are equal.
unfoldable pub same_place : Place → Place → Bool
same_place p q = (kind_of p == kind_of q) && ((index_of p == index_of q) && (second_of p == second_of q))

-- Whether the place holds an unsigned number.
abbrev pub is_number : Place → Bool
is_number SubmissionHead = true
is_number SubmissionTail = true
is_number SubmissionFlags = true
is_number SubmissionDropped = true
is_number CompletionHead = true
is_number CompletionTail = true
is_number (Array i) = true
is_number (Slot i) = false
is_number (Completion i) = false
is_number (MemoryByte a) = false
is_number (FileByte o i) = false
is_number (DurableByte o i) = false
is_number (FileLength o) = true
is_number (DurableLength o) = true
is_number (Position f) = true
is_number (OpenMark f) = true
is_number (PipeByte o i) = false
is_number (PutCount o) = true
is_number (TakenCount o) = true
is_number (EventCount o) = true
is_number (Request i) = false
is_number (Backlog i) = false
is_number BacklogFront = true
is_number Clock = true
is_number Counted = true
is_number PollerStage = false
is_number (ProgramCounter t) = true
is_number (ThreadStage t) = false
is_number (Last t) = false
is_number (Got t) = false

-- Whether the place is a slot of the completion ring.
abbrev pub is_completion : Place → Bool
is_completion (Completion i) = true
is_completion _ = false

-- Whether the place holds neither a number, a byte, a request nor a completion of the ring.
abbrev pub is_other : Place → Bool
is_other (Slot i) = true
is_other (Backlog i) = true
is_other PollerStage = true
is_other (ThreadStage t) = true
is_other (Last t) = true
is_other (Got t) = true
is_other _ = false

-- The place exists in some setup within the limits.
abbrev pub InLimits : Place → Type 0
InLimits (Array i) = i < 4096
InLimits (Slot i) = i < 4096
InLimits (Completion i) = i < 8192
InLimits (MemoryByte a) = a < 65536
InLimits (FileByte o i) = (o < 32) × (i < 65536)
InLimits (DurableByte o i) = (o < 32) × (i < 65536)
InLimits (FileLength o) = o < 32
InLimits (DurableLength o) = o < 32
InLimits (Position f) = f < 67
InLimits (OpenMark f) = f < 67
InLimits (PipeByte o i) = (o < 32) × (i < 65536)
InLimits (PutCount o) = o < 32
InLimits (TakenCount o) = o < 32
InLimits (EventCount o) = o < 32
InLimits (Request i) = i < 65536
InLimits (Backlog i) = i < 65536
InLimits (ProgramCounter t) = t < 16
InLimits (ThreadStage t) = t < 16
InLimits (Last t) = t < 16
InLimits (Got t) = t < 16
InLimits _ = Unit {0}
