-- What remains of notes when a recorder is closed.
use Rattle.std.specs.Prelude.{◌≡◌, ◌≢◌, ℕ, List, [], ◌∷◌, Option, Some, None, ◌⊎◌}
use Rattle.places.specs.declared.value.Value.{Value}
use Rattle.places.specs.declared.value.Value.TheVariants.{Byte}
use Rattle.places.specs.declared.value.Change.{Change}
use Rattle.places.specs.View.{View}

-- `ds` are the notes whose place has another value in the view `v`, in order.
abbrev pub KeptOf : View → List Change → List Change → Type 0
KeptOf v [] ds = ds ≡ []
KeptOf v (c ∷ cs) ds = ((c.old ≢ v c.place) × (es : List Change) × (ds ≡ c ∷ es) × KeptOf v cs es) ⊎ ((c.old ≡ v c.place) × KeptOf v cs ds)

-- What remains, `p`, of a recorded byte whose place has the value `x` now:
-- nothing if they are equal.
abbrev pub LeftOf : Option Value → Option ℕ → Option ℕ → Type 0
LeftOf x None p = p ≡ None
LeftOf x (Some b) p = ((p ≡ Some b) × (Some (Byte b) ≢ x)) ⊎ ((p ≡ None) × (Some (Byte b) ≡ x))
