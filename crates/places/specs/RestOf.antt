-- The rarer notes in a box, if there is one.
use Rattle.std.specs.Prelude.{◌≡◌, [], true, Option, Some, None, Box}
use Rattle.places.specs.declared.notes.kept.Inner.{Inner}
use Rattle.places.specs.RestList.{RestList}

abbrev pub rest_of : {Z : Type 0} → Option (Box Inner Z) → RestList
rest_of None = record { runs = []; olds = []; odd = []; spare = 0 }
rest_of (Some b) = record { runs = b.value.bytes.runs; olds = b.value.bytes.olds; odd = b.value.odd.notes; spare = b.value.odd.spare }

-- Each old byte has a bit, so that it can be dropped.
abbrev pub IsOpen : {Z : Type 0} → Option (Box Inner Z) → Type 0
IsOpen None = Unit {0}
IsOpen (Some b) = b.value.bytes.is_open ≡ true
