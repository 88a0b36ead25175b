-- Notes as changes of places, and the slots of their places.
use Rattle.std.specs.Prelude.{ℕ, ◌+◌, ◌*◌, ◌==◌, List, [], ◌∷◌, Some, None, option_map, if◌then◌else◌}
use Rattle.places.specs.declared.place.Place.{Place}
use Rattle.places.specs.declared.place.Place.TheVariants.{SubmissionHead, SubmissionTail, SubmissionFlags, SubmissionDropped, CompletionHead, CompletionTail, Array, Completion, FileLength, DurableLength, Position, OpenMark, PutCount, TakenCount, EventCount, Request, BacklogFront, Clock, Counted, ProgramCounter, Slot, Backlog, PollerStage, ThreadStage, Last, Got}
use Rattle.places.specs.declared.value.Value.{Value}
use Rattle.places.specs.declared.value.Value.TheVariants.{Number, Signed, Byte, Entry, Completed, Requested, Staged, Reaped, Awake}
use Rattle.places.specs.declared.value.Change.{Change}
use Rattle.places.specs.declared.notes.numbers.NumberNote.{NumberNote}
use Rattle.places.specs.declared.notes.completions.CompletionNote.{CompletionNote}
use Rattle.places.specs.declared.notes.rows.RowNote.{RowNote}
use Rattle.places.specs.declared.notes.rows.RowNote.TheVariants.{Absent, Was, Other}
use Rattle.places.specs.declared.notes.rows.Small.{Small}
use Rattle.places.specs.declared.notes.rows.Small.TheVariants.{Amount, Answer, Octet, Submitted, Posted, Next, Taken, Up}
use Rattle.places.specs.Places.{kind_of, index_of}

-- A table of the places of numbers at index i, by the numbers of their kinds.
abbrev pub number_places : ℕ → List (ℕ × Place)
number_places i = (0, SubmissionHead) ∷ (1, SubmissionTail) ∷ (2, SubmissionFlags) ∷ (3, SubmissionDropped) ∷ (4, CompletionHead) ∷ (5, CompletionTail) ∷ (6, Array i) ∷ (12, FileLength i) ∷ (13, DurableLength i) ∷ (14, Position i) ∷ (15, OpenMark i) ∷ (17, PutCount i) ∷ (18, TakenCount i) ∷ (19, EventCount i) ∷ (22, BacklogFront) ∷ (23, Clock) ∷ (24, Counted) ∷ []

-- Looks up kind k in a table. The place p is the default.
abbrev pub place_in_slot : ℕ → List (ℕ × Place) → Place → Place
place_in_slot k [] p = p
place_in_slot k (c ∷ cs) p = if k == c.0 then c.1 else place_in_slot k cs p

-- The place of a number with kind k and index i.
unfoldable pub number_place : ℕ → ℕ → Place
number_place k i = place_in_slot k (number_places i) (ProgramCounter i)

-- The slot of the place of a number: odd for the words of the submission array, even for others.
unfoldable pub number_slot : Place → ℕ
number_slot p = if kind_of p == 6 then 2 * index_of p + 1 else 2 * (30 * index_of p + kind_of p)

abbrev pub number_slot_of : NumberNote → ℕ
number_slot_of n = number_slot (number_place n.kind n.index)

abbrev pub number_change : NumberNote → Change
number_change n = record { place = number_place n.kind n.index; old = Some (Number n.old) }

abbrev pub completion_slot_of : CompletionNote → ℕ
completion_slot_of n = n.slot

abbrev pub completion_change : CompletionNote → Change
completion_change n = record { place = Completion n.slot; old = Some (Completed n.old) }

-- The value that a `Small` represents.
abbrev pub value_of : Small → Value
value_of (Amount n) = Number n
value_of (Answer n) = Signed n
value_of (Octet b) = Byte b
value_of (Submitted e) = Entry e
value_of (Posted c) = Completed c
value_of (Next t) = Staged t
value_of (Taken c) = Reaped c
value_of (Up a) = Awake a

-- A table of the other places at index i, by the numbers of their kinds.
abbrev pub other_places : ℕ → List (ℕ × Place)
other_places i = (7, Slot i) ∷ (21, Backlog i) ∷ (25, PollerStage) ∷ (27, ThreadStage i) ∷ (28, Last i) ∷ []

-- The other place with kind k and index i.
unfoldable pub other_place : ℕ → ℕ → Place
other_place k i = place_in_slot k (other_places i) (Got i)

-- The slot of a request or another place. The slots modulo 4 are: requests 0, overflowed
-- completions 1, entry slots 2, all others 3.
unfoldable pub slot_at : Place → ℕ
slot_at p =
    if kind_of p == 20 then 4 * index_of p else (
    if kind_of p == 21 then 4 * index_of p + 1 else (
    if kind_of p == 7 then 4 * index_of p + 2 else 4 * (30 * index_of p + kind_of p) + 3))

abbrev pub row_change : RowNote → Change
row_change (Absent r) = record { place = Request r; old = None }
row_change (Was r o) = record { place = Request r; old = Some (Requested o) }
row_change (Other k i o) = record { place = other_place k i; old = option_map value_of o }

abbrev pub row_slot_of : RowNote → ℕ
row_slot_of n = slot_at (row_change n).place
