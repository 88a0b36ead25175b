use Rattle.std.proofs.Common.{◌/◌, ◌%◌, ◌∙◌, ap, not, get_or, true, refl, arith}
use Rattle.bit_sets.specs.Sets.{has}
use Rattle.bit_sets.proofs.Bits.{bit_set, has_written, not_cond}
use Rattle.places.proofs.notes.marks.drop_mark.Goals as goal

pub returns-clause-kept : goal.returns-clause-kept
returns-clause-kept c = λ q.
    ap not (has_written c.args.gone.now c.args.i _ true c.requires (λ b h. bit_set (get_or c.args.gone.now (c.args.i / 64) 0) (c.args.i % 64) b true (omega arith) refl) q) ∙ not_cond _ (has c.args.gone.now q)
