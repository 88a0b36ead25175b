use Rattle.places.proofs.MaskedLemmas.{masked_nothing}
use Rattle.places.proofs.notes.runs.ByteNotes.clear.Goals as goal

pub invariant_of-self : goal.invariant_of-self
invariant_of-self c = rw (c.clear.ensures.items, c.clear-2.ensures.items, c.clear-3.ensures.items) masked_nothing
