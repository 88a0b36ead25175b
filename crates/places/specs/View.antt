-- Views of a state, and what undoing notes on a view gives. Going back in a run
-- rests on these definitions.
use Rattle.std.specs.Prelude.{◌≡◌, ◌≢◌, Bool, true, false, Option, Some, None, unwrap_or, List, [], ◌∷◌, if◌then◌else◌}
use Rattle.places.specs.declared.place.Place.{Place}
use Rattle.places.specs.declared.value.Value.{Value}
use Rattle.places.specs.declared.value.Change.{Change}
use Rattle.places.specs.Places.{same_place}

-- The value of each place, or `None` where the place is absent.
abbrev pub View : Type 0
View = Place → Option Value

-- The view with the value of place p replaced.
abbrev pub put_at : View → Place → Option Value → View
put_at v p x q = if same_place p q then x else v q

-- The old value of place p, if the notes name p: the first note of a place counts. `Some None`
-- means that p was absent.
unfoldable pub named : List Change → Place → Option (Option Value)
named [] p = None
named (c ∷ cs) p = if same_place c.place p then Some c.old else named cs p

-- The first of two optional notes that is there.
abbrev pub first_note : Option (Option Value) → Option (Option Value) → Option (Option Value)
first_note None b = b
first_note (Some x) b = Some x

-- `after` are the notes `before` with one of place p and value x added. If p had a note, it
-- stays the one that counts.
abbrev pub Noted : List Change → List Change → Place → Option Value → Type 0
Noted before after p x = (q : Place) → named after q ≡ first_note (named before q) (if same_place p q then Some x else None)

-- Each place has at most one note.
abbrev pub NamesOnce : List Change → Type 0
NamesOnce [] = Unit {0}
NamesOnce (c ∷ cs) = (named cs c.place ≡ None) × NamesOnce cs

-- The view with each noted place set back to its old value.
abbrev pub undo : View → List Change → View
undo v cs p = unwrap_or (named cs p) (v p)

-- The view with a list of records undone, the last record first.
abbrev pub undo_all : View → List (List Change) → View
undo_all v [] = v
undo_all v (r ∷ rs) = undo (undo_all v rs) r

-- Undoing the notes on the new view gives the old one.
abbrev pub LeadsBack : View → View → List Change → Type 0
LeadsBack old new cs = (p : Place) → undo new cs p ≡ old p

-- The notes that a part adds while it changes from `old` to `new`. Undoing all notes on the new
-- view gives its places the values that undoing the earlier ones on the old view gave. Notes of
-- other parts' places are unchanged.
pub record Keeps (owns : Place → Bool) (old new : View) (before after : List Change) : Type 0 where
  pub back : (p : Place) → owns p ≡ true → undo new after p ≡ undo old before p
  pub others : (p : Place) → owns p ≡ false → named after p ≡ named before p

-- The notes name exactly the places whose values differ, with the old values.
pub record Exact (old new : View) (cs : List Change) : Type 0 where
  pub differs : (p : Place) (x : Option Value) → named cs p ≡ Some x → (x ≡ old p) × (old p ≢ new p)
  pub same : (p : Place) → named cs p ≡ None → old p ≡ new p
