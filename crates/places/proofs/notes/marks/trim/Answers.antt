use Rattle.std.proofs.Common.{◌∙◌, ap, not, sym, refl, arith, []}
use Rattle.bit_sets.proofs.Bits.{has_past, no_words}
use Rattle.places.proofs.notes.marks.trim.Goals.{then-not-is_any_set, else-not-is_any_set}
use Rattle.places.proofs.notes.marks.trim.Goals as goal

pub returns : goal.returns
returns c = rw (c.shrink_to_fit.ensures.items) (elim c.if-not-is_any_set.branch [
  | then-not-is_any_set w ↦ λ q. rw (w.gone-is, w.clear.ensures.items) (ap not (has_past [] q (omega arith) ∙ sym (no_words c.args.gone.now.items q (rw (c.deref.ensures.value) at (sym c.is_any_set.ensures ∙ w.if-not-is_any_set.true)))))
  | else-not-is_any_set w ↦ λ q. rw (w.gone-is) refl
])
