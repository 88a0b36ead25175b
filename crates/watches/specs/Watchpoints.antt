-- What stops a run: watchpoints, which are places, and breakpoints, which are places with a value.
use Rattle.std.specs.Prelude.{◌≤◌, List, [], ◌∷◌, ◌++◌, length, Bool, if◌then◌else◌}
use Rattle.std.specs.List.{list_any}
use Rattle.places.specs.declared.place.Place.{Place}
use Rattle.places.specs.declared.value.Value.{Value}
use Rattle.places.specs.Places.{same_place}
use Rattle.watches.specs.declared.watched.Break.{Break}

pub record Stops : Type 0 where
  pub watchpoints : List Place
  pub breakpoints : List Break

abbrev pub nothing : Stops
nothing = record { watchpoints = []; breakpoints = [] }

-- Whether a place is in the list.
abbrev pub is_watched : List Place → Place → Bool
is_watched ps p = list_any (λ q. same_place q p) ps

-- With one more watched place, unless it is watched already.
abbrev pub watched : Stops → Place → Stops
watched w p = record {
  watchpoints = (if is_watched w.watchpoints p then w.watchpoints else w.watchpoints ++ p ∷ []);
  breakpoints = w.breakpoints;
}

-- With one more break.
abbrev pub broken : Stops → Place → Value → Stops
broken w p x = record {
  watchpoints = w.watchpoints;
  breakpoints = w.breakpoints ++ (record { place = p; value = x }) ∷ [];
}

-- The invariant: at most 64 watches and at most 64 breaks.
pub record Few (ps : List Place) (bs : List Break) : Type 0 where
  pub places : length ps ≤ 64
  pub breaks : length bs ≤ 64
