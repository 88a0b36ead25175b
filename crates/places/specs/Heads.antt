-- The heads of packed changes.
use Rattle.std.specs.Prelude.{◌≡◌, ℕ, ◌<◌, List, ◌∷◌, Some, is_some}
use Rattle.places.specs.declared.place.Place.{Place}
use Rattle.places.specs.declared.value.Value.TheVariants.{Number}
use Rattle.places.specs.declared.value.Change.{Change}
use Rattle.places.specs.declared.packing.changes.Head.{Head}
use Rattle.places.specs.PlaceNumbers.{place_of}

-- `h` is the head of the change `c`.
pub record IsHead (h : Head) (c : Change) : Type 0 where
  pub kind : h.kind < 30
  pub place : c.place ≡ place_of h.kind h.index 0
  pub was_there : is_some c.old ≡ h.was_there

-- `h` is the head of the first of the changes `cs`, and `ds` are the others.
pub record IsFirst (h : Head) (cs ds : List Change) : Type 0 where
  pub change : Change
  pub first : cs ≡ change ∷ ds
  pub head : IsHead h change

-- The change of a place that held the number n.
abbrev pub number_was : Place → ℕ → Change
number_was p n = record { place = p; old = Some (Number n) }
