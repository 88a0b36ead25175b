-- The places of a state, other than bytes, by what they are numbered by.
use Rattle.std.specs.Prelude.{ℕ, List, [], ◌∷◌}
use Rattle.places.specs.declared.place.Place.{Place}
use Rattle.places.specs.declared.place.Place.TheVariants.{SubmissionHead, SubmissionTail, SubmissionFlags, SubmissionDropped, CompletionHead, CompletionTail, Array, Slot, Completion, FileLength, DurableLength, Position, OpenMark, PutCount, TakenCount, EventCount, Request, Backlog, BacklogFront, Clock, Counted, PollerStage, ProgramCounter, ThreadStage, Last, Got}

-- The places without a number.
abbrev pub lone_places : List Place
lone_places =
    SubmissionHead ∷ SubmissionTail ∷ SubmissionFlags ∷ SubmissionDropped ∷ CompletionHead
    ∷ CompletionTail ∷ BacklogFront ∷ Clock ∷ Counted ∷ PollerStage ∷ []

-- The places of slot i of the rings.
abbrev pub places_of_slot : ℕ → List Place
places_of_slot i = Array i ∷ Slot i ∷ Completion i ∷ []

-- The places of object i, of descriptor i and of thread i.
abbrev pub places_of_part : ℕ → List Place
places_of_part i =
    FileLength i ∷ DurableLength i ∷ PutCount i ∷ TakenCount i ∷ EventCount i ∷ Position i
    ∷ OpenMark i ∷ ProgramCounter i ∷ ThreadStage i ∷ Last i ∷ Got i ∷ []

-- The places of request i and of overflowed completion i.
abbrev pub places_of_request : ℕ → List Place
places_of_request i = Request i ∷ Backlog i ∷ []
