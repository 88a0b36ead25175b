-- The notes in a box of unpacked notes, if there is one.
use Rattle.std.specs.Prelude.{[], true, false, Option, Some, None, Box}
use Rattle.places.specs.declared.notes.wide.Kinds.{Kinds}
use Rattle.places.specs.WideList.{WideList}

abbrev pub wide_of : {Z : Type 0} → Option (Box Kinds Z) → WideList
wide_of None = record { numbers = []; completions = []; rows = []; is_ready = false }
wide_of (Some b) = record { numbers = b.value.numbers.items; completions = b.value.completions.items; rows = b.value.rows.items; is_ready = true }
