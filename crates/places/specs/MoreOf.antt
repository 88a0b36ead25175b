-- The notes in the box of a record, if it has one.
use Rattle.std.specs.Prelude.{[], false, Some}
use Rattle.places.specs.declared.notes.more.Held.{Held}
use Rattle.places.specs.declared.notes.more.Held.TheVariants.{Nothing, Few, Each}
use Rattle.places.specs.MoreList.{MoreList}
use Rattle.places.specs.RestOf.{rest_of}
use Rattle.places.specs.WideList.{WideList}
use Rattle.places.specs.WideOf.{wide_of}

abbrev no_kinds : WideList
no_kinds = record { numbers = []; completions = []; rows = []; is_ready = false }

abbrev pub more_of : Held → MoreList
more_of Nothing = record { wide = no_kinds; rest = record { runs = []; olds = []; odd = []; spare = 0 } }
more_of (Few b) = record { wide = no_kinds; rest = rest_of (Some b) }
more_of (Each b) = record { wide = wide_of (Some b); rest = b.value.rest }
