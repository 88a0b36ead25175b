-- Within a kind of note, places and slots correspond one to one.
use Rattle.std.proofs.Common.{◌≡◌, ℕ, ◌+◌, ◌*◌, ◌<◌, Bool, true, false, cond, refl, sym, ◌∙◌, ap, arith, List, [], ◌∷◌}
use Rattle.std.specs.Prelude.{◌==◌}
use Rattle.std.proofs.lemmas.Bool.{eqb-true}
use Rattle.places.specs.declared.place.Place.{Place}
use Rattle.places.specs.declared.place.Place.TheVariants.{SubmissionHead, SubmissionTail, SubmissionFlags, SubmissionDropped, CompletionHead, CompletionTail, Array, Slot, Completion, MemoryByte, FileByte, DurableByte, FileLength, DurableLength, Position, OpenMark, PipeByte, PutCount, TakenCount, EventCount, Request, Backlog, BacklogFront, Clock, Counted, PollerStage, ProgramCounter, ThreadStage, Last, Got}
use Rattle.places.specs.declared.notes.numbers.NumberNote.{NumberNote}
use Rattle.places.specs.declared.notes.completions.CompletionNote.{CompletionNote}
use Rattle.places.specs.declared.notes.rows.RowNote.{RowNote}
use Rattle.places.specs.declared.notes.rows.RowNote.TheVariants.{Absent, Was, Other}
use Rattle.places.specs.Places.{kind_of, index_of, second_of, is_number, InLimits, is_other}
use Rattle.places.specs.Slots.{number_places, place_in_slot, number_place, number_slot, number_slot_of, number_change, completion_slot_of, completion_change, row_slot_of, row_change, other_places, other_place, slot_at}
use Rattle.places.specs.PlaceNumbers.{same_numbers}

-- There are 30 kinds of places.
pub kind_small : (p : Place) → kind_of p < 30
kind_small SubmissionHead = omega arith
kind_small SubmissionTail = omega arith
kind_small SubmissionFlags = omega arith
kind_small SubmissionDropped = omega arith
kind_small CompletionHead = omega arith
kind_small CompletionTail = omega arith
kind_small (Array i) = omega arith
kind_small (Slot i) = omega arith
kind_small (Completion i) = omega arith
kind_small (MemoryByte i) = omega arith
kind_small (FileByte o i) = omega arith
kind_small (DurableByte o i) = omega arith
kind_small (FileLength i) = omega arith
kind_small (DurableLength i) = omega arith
kind_small (Position i) = omega arith
kind_small (OpenMark i) = omega arith
kind_small (PipeByte o i) = omega arith
kind_small (PutCount i) = omega arith
kind_small (TakenCount i) = omega arith
kind_small (EventCount i) = omega arith
kind_small (Request i) = omega arith
kind_small (Backlog i) = omega arith
kind_small BacklogFront = omega arith
kind_small Clock = omega arith
kind_small Counted = omega arith
kind_small PollerStage = omega arith
kind_small (ProgramCounter i) = omega arith
kind_small (ThreadStage i) = omega arith
kind_small (Last i) = omega arith
kind_small (Got i) = omega arith

-- Places of numbers with equal slots have equal kinds and indexes.
same_slot : (p q : Place) → number_slot p ≡ number_slot q → (kind_of p ≡ kind_of q) × (index_of p ≡ index_of q)
unfolding number_slot
same_slot p q e = by (kind_of p == 6) (kind_of q == 6) refl refl e
  where
    by : (a b : Bool) → (kind_of p == 6) ≡ a → (kind_of q == 6) ≡ b → cond a (2 * index_of p + 1) (2 * (30 * index_of p + kind_of p)) ≡ cond b (2 * index_of q + 1) (2 * (30 * index_of q + kind_of q)) → (kind_of p ≡ kind_of q) × (index_of p ≡ index_of q)
    by true true h k f = (eqb-true _ _ h ∙ sym (eqb-true _ _ k), omega arith)
    by true false h k f = absurd (omega arith)
    by false true h k f = absurd (omega arith)
    by false false h k f = let m = kind_small p in let n = kind_small q in (omega arith, omega arith)

-- P holds for each place of a table.
unfoldable pub AllOf : (Place → Type 0) → List (ℕ × Place) → Type 0
AllOf P [] = Unit {0}
AllOf P (c ∷ cs) = P c.1 × AllOf P cs

either : (P : Place → Type 0) (b : Bool) (p q : Place) → P p → P q → P (cond b p q)
either P true p q h k = h
either P false p q h k = k

-- What holds for each place of a table, and for the default, holds for the place looked up.
pub place_in_slot_of : (P : Place → Type 0) (k : ℕ) (cs : List (ℕ × Place)) (p : Place) → AllOf P cs → P p → P (place_in_slot k cs p)
unfolding AllOf
place_in_slot_of P k [] p a h = h
place_in_slot_of P k (c ∷ cs) p a h = either P (k == c.0) c.1 (place_in_slot k cs p) a.0 (place_in_slot_of P k cs p a.1 h)

-- The place holds a number and has no second index.
pub record IsPlain (p : Place) : Type 0 where
  pub number : is_number p ≡ true
  pub second : second_of p ≡ 0

plain : {p : Place} → is_number p ≡ true → second_of p ≡ 0 → IsPlain p
plain n s = record { number = n; second = s }

all_plain : (i : ℕ) → AllOf IsPlain (number_places i)
unfolding AllOf
all_plain i = (plain refl refl, (plain refl refl, (plain refl refl, (plain refl refl, (plain refl refl, (plain refl refl, (plain refl refl, (plain refl refl, (plain refl refl, (plain refl refl, (plain refl refl, (plain refl refl, (plain refl refl, (plain refl refl, (plain refl refl, (plain refl refl, (plain refl refl, tt)))))))))))))))))

pub number_plain : (k i : ℕ) → IsPlain (number_place k i)
unfolding number_place
number_plain k i = place_in_slot_of IsPlain k (number_places i) (ProgramCounter i) (all_plain i) (plain refl refl)

pub one_number : (x y : NumberNote) → number_slot_of x ≡ number_slot_of y → (number_change x).place ≡ (number_change y).place
one_number x y e =
    let s = same_slot _ _ e in
    same_numbers _ _ s.0 s.1 ((number_plain x.kind x.index).second ∙ sym (number_plain y.kind y.index).second)

pub one_number_slot : (x y : NumberNote) → (number_change x).place ≡ (number_change y).place → number_slot_of x ≡ number_slot_of y
one_number_slot x y e = ap number_slot e

pub one_completion : (x y : CompletionNote) → completion_slot_of x ≡ completion_slot_of y → (completion_change x).place ≡ (completion_change y).place
one_completion x y e = ap Completion e

pub one_completion_slot : (x y : CompletionNote) → (completion_change x).place ≡ (completion_change y).place → completion_slot_of x ≡ completion_slot_of y
one_completion_slot x y e = cc

-- The place is one of the others (`is_other`) and has no second index.
pub record IsLone (p : Place) : Type 0 where
  pub other : is_other p ≡ true
  pub second : second_of p ≡ 0

lone : {p : Place} → is_other p ≡ true → second_of p ≡ 0 → IsLone p
lone n s = record { other = n; second = s }

all_lone : (i : ℕ) → AllOf IsLone (other_places i)
unfolding AllOf
all_lone i = (lone refl refl, (lone refl refl, (lone refl refl, (lone refl refl, (lone refl refl, tt)))))

pub other_lone : (k i : ℕ) → IsLone (other_place k i)
unfolding other_place
other_lone k i = place_in_slot_of IsLone k (other_places i) (Got i) (all_lone i) (lone refl refl)

same_slot_at : (p q : Place) → slot_at p ≡ slot_at q → (kind_of p ≡ kind_of q) × (index_of p ≡ index_of q)
unfolding slot_at
same_slot_at p q e = by (kind_of p == 20) (kind_of p == 21) (kind_of p == 7) (kind_of q == 20) (kind_of q == 21) (kind_of q == 7) refl refl refl refl refl refl e
  where
    by : (a b c x y z : Bool) → (kind_of p == 20) ≡ a → (kind_of p == 21) ≡ b → (kind_of p == 7) ≡ c → (kind_of q == 20) ≡ x → (kind_of q == 21) ≡ y → (kind_of q == 7) ≡ z → cond a (4 * index_of p) (cond b (4 * index_of p + 1) (cond c (4 * index_of p + 2) (4 * (30 * index_of p + kind_of p) + 3))) ≡ cond x (4 * index_of q) (cond y (4 * index_of q + 1) (cond z (4 * index_of q + 2) (4 * (30 * index_of q + kind_of q) + 3))) → (kind_of p ≡ kind_of q) × (index_of p ≡ index_of q)
    by true b c true y z h j l m n o f = (eqb-true _ _ h ∙ sym (eqb-true _ _ m), omega arith)
    by true b c false true z h j l m n o f = absurd (omega arith)
    by true b c false false true h j l m n o f = absurd (omega arith)
    by true b c false false false h j l m n o f = absurd (omega arith)
    by false true c true y z h j l m n o f = absurd (omega arith)
    by false true c false true z h j l m n o f = (eqb-true _ _ j ∙ sym (eqb-true _ _ n), omega arith)
    by false true c false false true h j l m n o f = absurd (omega arith)
    by false true c false false false h j l m n o f = absurd (omega arith)
    by false false true true y z h j l m n o f = absurd (omega arith)
    by false false true false true z h j l m n o f = absurd (omega arith)
    by false false true false false true h j l m n o f = (eqb-true _ _ l ∙ sym (eqb-true _ _ o), omega arith)
    by false false true false false false h j l m n o f = absurd (omega arith)
    by false false false true y z h j l m n o f = absurd (omega arith)
    by false false false false true z h j l m n o f = absurd (omega arith)
    by false false false false false true h j l m n o f = absurd (omega arith)
    by false false false false false false h j l m n o f = let s = kind_small p in let t = kind_small q in (omega arith, omega arith)

row_second : (x : RowNote) → second_of (row_change x).place ≡ 0
row_second (Absent r) = refl
row_second (Was r o) = refl
row_second (Other k i o) = (other_lone k i).second

pub one_row : (x y : RowNote) → row_slot_of x ≡ row_slot_of y → (row_change x).place ≡ (row_change y).place
one_row x y e =
    let s = same_slot_at _ _ e in
    same_numbers _ _ s.0 s.1 (row_second x ∙ sym (row_second y))

pub one_row_slot : (x y : RowNote) → (row_change x).place ≡ (row_change y).place → row_slot_of x ≡ row_slot_of y
one_row_slot x y e = ap slot_at e

-- Such a place is the one with its kind and index.
pub other_again : (p : Place) → is_other p ≡ true → other_place (kind_of p) (index_of p) ≡ p
unfolding other_place
other_again SubmissionHead h = absurd cc
other_again SubmissionTail h = absurd cc
other_again SubmissionFlags h = absurd cc
other_again SubmissionDropped h = absurd cc
other_again CompletionHead h = absurd cc
other_again CompletionTail h = absurd cc
other_again (Array i) h = absurd cc
other_again (Slot i) h = refl
other_again (Completion i) h = absurd cc
other_again (MemoryByte i) h = absurd cc
other_again (FileByte o i) h = absurd cc
other_again (DurableByte o i) h = absurd cc
other_again (FileLength i) h = absurd cc
other_again (DurableLength i) h = absurd cc
other_again (Position i) h = absurd cc
other_again (OpenMark i) h = absurd cc
other_again (PipeByte o i) h = absurd cc
other_again (PutCount i) h = absurd cc
other_again (TakenCount i) h = absurd cc
other_again (EventCount i) h = absurd cc
other_again (Request i) h = absurd cc
other_again (Backlog i) h = refl
other_again BacklogFront h = absurd cc
other_again Clock h = absurd cc
other_again Counted h = absurd cc
other_again PollerStage h = refl
other_again (ProgramCounter i) h = absurd cc
other_again (ThreadStage i) h = refl
other_again (Last i) h = refl
other_again (Got i) h = refl

-- The slots of such places within the limits of a setup are below 262,144.
pub other_below : (p : Place) → is_other p ≡ true → InLimits p → slot_at p < 262144
unfolding slot_at
other_below SubmissionHead h l = absurd cc
other_below SubmissionTail h l = absurd cc
other_below SubmissionFlags h l = absurd cc
other_below SubmissionDropped h l = absurd cc
other_below CompletionHead h l = absurd cc
other_below CompletionTail h l = absurd cc
other_below (Array i) h l = absurd cc
other_below (Slot i) h l = omega arith
other_below (Completion i) h l = absurd cc
other_below (MemoryByte i) h l = absurd cc
other_below (FileByte o i) h l = absurd cc
other_below (DurableByte o i) h l = absurd cc
other_below (FileLength i) h l = absurd cc
other_below (DurableLength i) h l = absurd cc
other_below (Position i) h l = absurd cc
other_below (OpenMark i) h l = absurd cc
other_below (PipeByte o i) h l = absurd cc
other_below (PutCount i) h l = absurd cc
other_below (TakenCount i) h l = absurd cc
other_below (EventCount i) h l = absurd cc
other_below (Request i) h l = absurd cc
other_below (Backlog i) h l = omega arith
other_below BacklogFront h l = absurd cc
other_below Clock h l = absurd cc
other_below Counted h l = absurd cc
other_below PollerStage h l = omega arith
other_below (ProgramCounter i) h l = absurd cc
other_below (ThreadStage i) h l = omega arith
other_below (Last i) h l = omega arith
other_below (Got i) h l = omega arith

-- So are the slots of requests.
pub row_below : (r : ℕ) → r < 65536 → slot_at (Request r) < 262144
unfolding slot_at
row_below r h = omega arith

-- The place of a number is the one with its kind and index.
pub number_again : (p : Place) → is_number p ≡ true → number_place (kind_of p) (index_of p) ≡ p
unfolding number_place
number_again SubmissionHead h = refl
number_again SubmissionTail h = refl
number_again SubmissionFlags h = refl
number_again SubmissionDropped h = refl
number_again CompletionHead h = refl
number_again CompletionTail h = refl
number_again (Array i) h = refl
number_again (Slot i) h = absurd cc
number_again (Completion i) h = absurd cc
number_again (MemoryByte i) h = absurd cc
number_again (FileByte o i) h = absurd cc
number_again (DurableByte o i) h = absurd cc
number_again (FileLength i) h = refl
number_again (DurableLength i) h = refl
number_again (Position i) h = refl
number_again (OpenMark i) h = refl
number_again (PipeByte o i) h = absurd cc
number_again (PutCount i) h = refl
number_again (TakenCount i) h = refl
number_again (EventCount i) h = refl
number_again (Request i) h = absurd cc
number_again (Backlog i) h = absurd cc
number_again BacklogFront h = refl
number_again Clock h = refl
number_again Counted h = refl
number_again PollerStage h = absurd cc
number_again (ProgramCounter i) h = refl
number_again (ThreadStage i) h = absurd cc
number_again (Last i) h = absurd cc
number_again (Got i) h = absurd cc

-- The slots of numbers within the limits of a setup are below 8,192.
pub number_below : (p : Place) → is_number p ≡ true → InLimits p → number_slot p < 8192
unfolding number_slot
number_below SubmissionHead h l = omega arith
number_below SubmissionTail h l = omega arith
number_below SubmissionFlags h l = omega arith
number_below SubmissionDropped h l = omega arith
number_below CompletionHead h l = omega arith
number_below CompletionTail h l = omega arith
number_below (Array i) h l = omega arith
number_below (Slot i) h l = absurd cc
number_below (Completion i) h l = absurd cc
number_below (MemoryByte i) h l = absurd cc
number_below (FileByte o i) h l = absurd cc
number_below (DurableByte o i) h l = absurd cc
number_below (FileLength i) h l = omega arith
number_below (DurableLength i) h l = omega arith
number_below (Position i) h l = omega arith
number_below (OpenMark i) h l = omega arith
number_below (PipeByte o i) h l = absurd cc
number_below (PutCount i) h l = omega arith
number_below (TakenCount i) h l = omega arith
number_below (EventCount i) h l = omega arith
number_below (Request i) h l = absurd cc
number_below (Backlog i) h l = absurd cc
number_below BacklogFront h l = omega arith
number_below Clock h l = omega arith
number_below Counted h l = omega arith
number_below PollerStage h l = absurd cc
number_below (ProgramCounter i) h l = omega arith
number_below (ThreadStage i) h l = absurd cc
number_below (Last i) h l = absurd cc
number_below (Got i) h l = absurd cc
