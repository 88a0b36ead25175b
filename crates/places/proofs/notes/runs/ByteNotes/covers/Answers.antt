use Rattle.std.proofs.Common.{◌∙◌, ap}
use Rattle.std.specs.List.{list_any}
use Rattle.places.specs.Runs.{covers}
use Rattle.places.proofs.ByteLemmas.{covered}
use Rattle.places.proofs.notes.runs.ByteNotes.covers.Goals as goal

pub returns : goal.returns
returns c = rw (← c.self.view_is) (λ h. c.is_covered.ensures ∙ ap (list_any (λ r. covers r c.args.place)) c.deref.ensures.value ∙ covered _ _ c.args.place h c.self.invariant.once.fits)
