-- A place is determined by three numbers: its kind and two indexes.
use Rattle.std.proofs.Common.{◌≡◌, ℕ, cond, refl, sym, ◌∙◌, ap}
use Rattle.std.specs.Prelude.{◌==◌}
use Rattle.places.specs.declared.place.Place.{Place}
use Rattle.places.specs.declared.place.Place.TheVariants.{SubmissionHead, SubmissionTail, SubmissionFlags, SubmissionDropped, CompletionHead, CompletionTail, Array, Slot, Completion, MemoryByte, FileByte, DurableByte, FileLength, DurableLength, Position, OpenMark, PipeByte, PutCount, TakenCount, EventCount, Request, Backlog, BacklogFront, Clock, Counted, PollerStage, ProgramCounter, ThreadStage, Last, Got}
use Rattle.places.specs.Places.{kind_of, index_of, second_of}

-- The place with a kind and two indexes.
unfoldable pub place_of : ℕ → ℕ → ℕ → Place
place_of k i j =
    cond (k == 0) SubmissionHead (
    cond (k == 1) SubmissionTail (
    cond (k == 2) SubmissionFlags (
    cond (k == 3) SubmissionDropped (
    cond (k == 4) CompletionHead (
    cond (k == 5) CompletionTail (
    cond (k == 6) (Array i) (
    cond (k == 7) (Slot i) (
    cond (k == 8) (Completion i) (
    cond (k == 9) (MemoryByte i) (
    cond (k == 10) (FileByte i j) (
    cond (k == 11) (DurableByte i j) (
    cond (k == 12) (FileLength i) (
    cond (k == 13) (DurableLength i) (
    cond (k == 14) (Position i) (
    cond (k == 15) (OpenMark i) (
    cond (k == 16) (PipeByte i j) (
    cond (k == 17) (PutCount i) (
    cond (k == 18) (TakenCount i) (
    cond (k == 19) (EventCount i) (
    cond (k == 20) (Request i) (
    cond (k == 21) (Backlog i) (
    cond (k == 22) BacklogFront (
    cond (k == 23) Clock (
    cond (k == 24) Counted (
    cond (k == 25) PollerStage (
    cond (k == 26) (ProgramCounter i) (
    cond (k == 27) (ThreadStage i) (
    cond (k == 28) (Last i) (Got i)))))))))))))))))))))))))))))

-- A place is the one with its kind and indexes.
pub place_again : (p : Place) → place_of (kind_of p) (index_of p) (second_of p) ≡ p
unfolding place_of
place_again SubmissionHead = refl
place_again SubmissionTail = refl
place_again SubmissionFlags = refl
place_again SubmissionDropped = refl
place_again CompletionHead = refl
place_again CompletionTail = refl
place_again (Array i) = refl
place_again (Slot i) = refl
place_again (Completion i) = refl
place_again (MemoryByte a) = refl
place_again (FileByte o i) = refl
place_again (DurableByte o i) = refl
place_again (FileLength o) = refl
place_again (DurableLength o) = refl
place_again (Position f) = refl
place_again (OpenMark f) = refl
place_again (PipeByte o i) = refl
place_again (PutCount o) = refl
place_again (TakenCount o) = refl
place_again (EventCount o) = refl
place_again (Request i) = refl
place_again (Backlog i) = refl
place_again BacklogFront = refl
place_again Clock = refl
place_again Counted = refl
place_again PollerStage = refl
place_again (ProgramCounter t) = refl
place_again (ThreadStage t) = refl
place_again (Last t) = refl
place_again (Got t) = refl

-- Places with equal kinds and indexes are equal.
pub same_numbers : (p q : Place) → kind_of p ≡ kind_of q → index_of p ≡ index_of q → second_of p ≡ second_of q → p ≡ q
same_numbers p q k i j =
    sym (place_again p) ∙ ap (λ n. place_of n (index_of p) (second_of p)) k ∙ ap (λ n. place_of (kind_of q) n (second_of p)) i ∙ ap (place_of (kind_of q) (index_of q)) j ∙ place_again q
