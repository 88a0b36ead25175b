use Rattle.std.proofs.Common.{◌∙◌}
use Rattle.places.proofs.Naming.{list_any-named_by}
use Rattle.places.proofs.notes.slots.names_place.Goals as goal

pub returns : goal.returns
returns g c = c.has_note.ensures ∙ list_any-named_by g.N.Slotted.change _ c.args.place
