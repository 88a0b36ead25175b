-- Marks, which say at which index of a list the note of a slot is.
use Rattle.std.specs.Prelude.{◌≡◌, ℕ, List, Some, map, slice_get}
use Rattle.places.specs.declared.value.Change.{Change}
use Rattle.places.specs.View.{NamesOnce}

-- Notes, how many more there is memory for, and how many slots have marks.
pub record SlotList (X : Type 0) : Type 0 where
  pub notes : List X
  pub spare : ℕ
  pub reached : ℕ

-- The mark of each note's slot is the note's index.
abbrev pub Marked : {X : Type 0} → (X → ℕ) → List X → List ℕ → Type 0
Marked {X} slot xs marks = (k : ℕ) (x : X) → slice_get xs k ≡ Some x → slice_get marks (slot x) ≡ Some k

-- The mark of slot i is the index of a note that has this slot.
pub record IsMarked {X : Type 0} (slot : X → ℕ) (xs : List X) (marks : List ℕ) (i : ℕ) : Type 0 where
  pub at : ℕ
  pub note : X
  pub mark : slice_get marks i ≡ Some at
  pub there : slice_get xs at ≡ Some note
  pub its : slot note ≡ i

-- The mark of each note's slot is its index, and each place has at most one note.
pub record SlotsOnce {X : Type 0} (slot : X → ℕ) (change : X → Change) (xs : List X) (marks : List ℕ) : Type 0 where
  pub marked : Marked slot xs marks
  pub once : NamesOnce (map change xs)
