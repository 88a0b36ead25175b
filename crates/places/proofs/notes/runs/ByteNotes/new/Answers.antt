use Rattle.places.proofs.MaskedLemmas.{masked_nothing}
use Rattle.places.proofs.notes.runs.ByteNotes.new.Goals as goal

pub invariant_of-result : goal.invariant_of-result
invariant_of-result c = rw (c.new.ensures.items, c.new-2.ensures.items, c.new-3.ensures.items) masked_nothing
