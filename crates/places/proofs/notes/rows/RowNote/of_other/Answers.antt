use Rattle.std.proofs.Common.{◌≡◌, ap}
use Rattle.std.specs.Prelude.{option_map}
use Rattle.places.specs.declared.value.Change.{Change}
use Rattle.places.specs.declared.place.Place.{Place}
use Rattle.places.specs.Slots.{other_place, value_of}
use Rattle.places.specs.SlotLaws.{other_again}
use Rattle.places.proofs.notes.rows.RowNote.of_other.Goals as goal

pub returns : goal.returns
returns c =
    let e : other_place c.kind.result c.index.result ≡ c.args.place = rw (c.kind.ensures, c.index.ensures) (other_again c.args.place c.requires) in
    let f : Place → Change = λ p. record { place = p; old = option_map value_of c.args.old } in
    ap f e
