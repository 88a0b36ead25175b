use Rattle.std.proofs.Common.{◌≡◌, ap}
use Rattle.std.specs.Prelude.{Some}
use Rattle.places.specs.declared.value.Value.TheVariants.{Number}
use Rattle.places.specs.declared.value.Change.{Change}
use Rattle.places.specs.Slots.{number_place}
use Rattle.places.specs.declared.place.Place.{Place}
use Rattle.places.specs.SlotLaws.{number_again}
use Rattle.places.proofs.notes.numbers.NumberNote.new.Goals as goal

pub returns : goal.returns
returns c =
    let e : number_place c.kind.result c.index.result ≡ c.args.place = rw (c.kind.ensures, c.index.ensures) (number_again c.args.place c.requires) in
    let f : Place → Change = λ p. record { place = p; old = Some (Number c.args.old) } in
    ap f e
