-- The names of places: a word, followed by an object's name, a number, or both.
use Rattle.std.specs.Prelude.{ℕ, List, [], ◌++◌, codes, decimal, slice_get, Bool, Option, None, Some}
use Rattle.std.specs.Option.{option_map_or}
use Rattle.std.specs.Str.{bytes_eq}
use Rattle.places.specs.declared.object.Object.{Object}
use Rattle.places.specs.declared.place.Place.{Place}
use Rattle.places.specs.declared.place.Place.TheVariants.{SubmissionHead, SubmissionTail, SubmissionFlags, SubmissionDropped, CompletionHead, CompletionTail, Array, Slot, Completion, MemoryByte, FileByte, DurableByte, FileLength, DurableLength, Position, OpenMark, PipeByte, PutCount, TakenCount, EventCount, Request, Backlog, BacklogFront, Clock, Counted, PollerStage, ProgramCounter, ThreadStage, Last, Got}
use Rattle.scenario.specs.declared.setup.Setup.{Setup}

-- The first word of a place's name.
abbrev pub word_of : Place → List ℕ
word_of SubmissionHead = codes "sq.head"
word_of SubmissionTail = codes "sq.tail"
word_of SubmissionFlags = codes "sq.flags"
word_of SubmissionDropped = codes "sq.dropped"
word_of CompletionHead = codes "cq.head"
word_of CompletionTail = codes "cq.tail"
word_of (Array i) = codes "array"
word_of (Slot i) = codes "slot"
word_of (Completion i) = codes "cqe"
word_of (MemoryByte a) = codes "mem"
word_of (FileByte o i) = codes "file"
word_of (DurableByte o i) = codes "durable"
word_of (FileLength o) = codes "len"
word_of (DurableLength o) = codes "dlen"
word_of (Position f) = codes "pos"
word_of (OpenMark f) = codes "open"
word_of (PipeByte o i) = codes "pipe"
word_of (PutCount o) = codes "put"
word_of (TakenCount o) = codes "taken"
word_of (EventCount o) = codes "event"
word_of (Request i) = codes "row"
word_of (Backlog i) = codes "backlog"
word_of BacklogFront = codes "bfront"
word_of Clock = codes "clock"
word_of Counted = codes "counted"
word_of PollerStage = codes "poller"
word_of (ProgramCounter t) = codes "pc"
word_of (ThreadStage t) = codes "stage"
word_of (Last t) = codes "last"
word_of (Got t) = codes "got"

-- Whether a word is the first word of a place's name.
abbrev pub is_word_of : List ℕ → Place → Bool
is_word_of w p = bytes_eq w (word_of p)

-- The object that a place belongs to, if its name says so.
abbrev pub owner_of : Place → Option ℕ
owner_of (FileByte o i) = Some o
owner_of (DurableByte o i) = Some o
owner_of (PipeByte o i) = Some o
owner_of (FileLength o) = Some o
owner_of (DurableLength o) = Some o
owner_of (PutCount o) = Some o
owner_of (TakenCount o) = Some o
owner_of (EventCount o) = Some o
owner_of _ = None

-- The number at the end of a place's name.
abbrev pub number_of : Place → Option ℕ
number_of (Array i) = Some i
number_of (Slot i) = Some i
number_of (Completion i) = Some i
number_of (MemoryByte a) = Some a
number_of (FileByte o i) = Some i
number_of (DurableByte o i) = Some i
number_of (Position f) = Some f
number_of (OpenMark f) = Some f
number_of (PipeByte o i) = Some i
number_of (Request i) = Some i
number_of (Backlog i) = Some i
number_of (ProgramCounter t) = Some t
number_of (ThreadStage t) = Some t
number_of (Last t) = Some t
number_of (Got t) = Some t
number_of _ = None

-- The name of an object of the setup.
abbrev pub name_of : Setup → ℕ → List ℕ
name_of s o = option_map_or (λ (x : Object). x.name) (slice_get s.objects o) []

-- An object's name after a space, if there is an object.
abbrev pub owner_text : Setup → Option ℕ → List ℕ
owner_text s None = []
owner_text s (Some o) = codes " " ++ name_of s o

-- A number after a text, if there is a number.
abbrev pub number_text : List ℕ → Option ℕ → List ℕ
number_text before None = []
number_text before (Some n) = before ++ decimal n

-- The name of a place.
abbrev pub place_text : Setup → Place → List ℕ
place_text s p = word_of p ++ (owner_text s (owner_of p) ++ number_text (codes " ") (number_of p))
