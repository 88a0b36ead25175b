use Rattle.std.proofs.Common.{◌∙◌}
use Rattle.places.proofs.MaskedLemmas.{length_kept}
use Rattle.places.proofs.notes.runs.ByteNotes.stretches.Goals as goal

pub new-requires-clause-fits : goal.new-requires-clause-fits
new-requires-clause-fits c = rw (c.deref.ensures.value, c.deref-2.ensures.value) (c.self.invariant.once.fits ∙ length_kept c.self.inside.olds.items c.self.inside.gone.items 0)
