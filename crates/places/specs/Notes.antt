-- A recorder as contracts see it, and how many elements of a list remain after undoing a record.
use Rattle.std.specs.Prelude.{◌≡◌, ◌⊎◌, ℕ, ◌+◌, ◌≤◌, Bool, true, false, Option, Some, None, List, [], ◌∷◌, min, if◌then◌else◌}
use Rattle.places.specs.declared.listed.Listed.{Listed}
use Rattle.places.specs.declared.listed.Listed.TheVariants.{Requests, Overflowed}
use Rattle.places.specs.declared.place.Place.{Place}
use Rattle.places.specs.declared.place.Place.TheVariants.{Request, Backlog}
use Rattle.places.specs.declared.value.Value.{Value}
use Rattle.places.specs.declared.value.Change.{Change}
use Rattle.places.specs.Places.{is_number, is_completion}
use Rattle.places.specs.View.{named}

-- The notes in order, and for how many more notes of each kind memory is reserved.
pub record Notes : Type 0 where
  pub made : List Change
  pub numbers : ℕ
  pub completions : ℕ
  pub others : ℕ

-- For how many more notes of the kind of place p memory is reserved.
abbrev pub room_for : Notes → Place → ℕ
room_for n p = if is_number p then n.numbers else (if is_completion p then n.completions else n.others)

abbrev pub one_if : Bool → ℕ
one_if true = 1
one_if false = 0

abbrev pub neither : Bool → Bool → ℕ
neither false false = 1
neither _ _ = 0

-- A note of place p uses reserved memory of its own kind only, and for one note at most.
pub record Spends (old new : Notes) (p : Place) : Type 0 where
  pub numbers : old.numbers ≤ new.numbers + one_if (is_number p)
  pub completions : old.completions ≤ new.completions + one_if (is_completion p)
  pub others : old.others ≤ new.others + neither (is_number p) (is_completion p)

-- At least as much memory is reserved as before.
pub record HasSameRoom (old new : Notes) : Type 0 where
  pub numbers : old.numbers ≤ new.numbers
  pub completions : old.completions ≤ new.completions
  pub others : old.others ≤ new.others

-- The number of an element of the list, if the place is one.
abbrev pub number_in : Listed → Place → Option ℕ
number_in Requests (Request i) = Some i
number_in Overflowed (Backlog i) = Some i
number_in l p = None

-- The place of element i.
abbrev pub element : Listed → ℕ → Place
element Requests i = Request i
element Overflowed i = Backlog i

-- How many of n elements remain after undoing a record: those before the first one that the record
-- names as absent, or all n.
pub record IsLeft (l : Listed) (cs : List Change) (n left : ℕ) : Type 0 where
  pub most : left ≤ n
  pub least : (i : ℕ) → named cs (element l i) ≡ Some None → left ≤ i
  pub reached : (left ≡ n) ⊎ (named cs (element l left) ≡ Some None)

-- ---- Computed change by change

-- How many of n elements remain if element i was absent: those before it.
abbrev pub cut_off : Option ℕ → Option Value → ℕ → ℕ
cut_off (Some i) None n = min n i
cut_off i x n = n

-- How many of n elements of a list remain after undoing one change.
abbrev pub after_change : Listed → Place → Option Value → ℕ → ℕ
after_change l p x n = cut_off (number_in l p) x n

-- How many of n elements of a list remain after undoing a list of changes.
abbrev pub left : Listed → List Change → ℕ → ℕ
left l [] n = n
left l (c ∷ cs) n = left l cs (after_change l c.place c.old n)

-- Undoing the changes removes no element.
abbrev pub ShortensNothing : List Change → Type 0
ShortensNothing cs = (l : Listed) (n : ℕ) → left l cs n ≡ n
