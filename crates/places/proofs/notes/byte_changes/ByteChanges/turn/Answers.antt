use Rattle.std.proofs.Common.{◌∙◌, sym, rules}
use Rattle.places.proofs.MaskedLemmas.{first_kept}
use Rattle.places.proofs.notes.byte_changes.ByteChanges.turn.Goals as goal

pub returns-clause-found : goal.returns-clause-found
returns-clause-found c = rw (c.place-place.ensures, ← c.self.view_is) (first_kept c.self.inside.region c.self.inside.from c.self.inside.left c.self.inside.olds.now c.self.inside.gone.now c.self.inside.mark c.self.inside.runs.now _ (search rules) c.in-len1-up-olds.len_at_least (sym c.is_kept-is_kept.ensures ∙ c.if-not-is_kept.false))
