use Rattle.places.proofs.MaskedLemmas.{first_stretch}
use Rattle.places.proofs.notes.byte_changes.Stretches.next.Goals as goal

pub returns-clause-yields : goal.returns-clause-yields
returns-clause-yields c = rw (← c.self.view_is) (first_stretch c.self.inside.runs.now _ c.self.inside.olds.now c.split_at.result.0.now c.split_at.result.1.now c.self.inside.gone.now c.self.inside.mark c.in-len1-up.len_at_least c.self.invariant.0 c.split_at.ensures.front c.split_at.ensures.back)
