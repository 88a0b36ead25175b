use Rattle.std.proofs.Common.{◌∙◌, ap}
use Rattle.std.specs.List.{list_any}
use Rattle.places.specs.Places.{same_place}
use Rattle.places.proofs.Naming.{list_any-named}
use Rattle.places.proofs.notes.odd.Odd.names.Goals as goal

pub returns : goal.returns
returns c = rw (← c.self.view_is) (c.is_named.ensures ∙ ap (list_any (λ d. same_place d.place c.args.place)) c.deref.ensures.value ∙ list_any-named _ c.args.place)
