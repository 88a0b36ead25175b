use Rattle.std.proofs.Common.{◌∙◌, ap}
use Rattle.std.specs.List.{list_any}
use Rattle.places.specs.Places.{same_place}
use Rattle.places.proofs.Naming.{list_any-named_by}
use Rattle.places.proofs.notes.slots.Slots.names.Goals as goal

pub returns : goal.returns
returns g c = rw (← c.self.view_is) (c.has_note.ensures ∙ ap (list_any (λ n. same_place (g.N.Slotted.change n).place c.args.place)) c.deref.ensures.value ∙ list_any-named_by g.N.Slotted.change _ c.args.place)
