use Rattle.std.proofs.Common.{◌∙◌, sym, arith}
use Rattle.places.proofs.MarkLemmas.{none_set, one_set}
use Rattle.places.proofs.notes.marks.is_any_kept.Goals as goal

pub returns-then-is_kept : goal.returns-then-is_kept
returns-then-is_kept c = sym (one_set c.args.gone.now 0 c.args.len c.loop-i.i (omega arith) (let t = c.loop-i-test.true in omega arith) (sym c.is_kept.ensures ∙ c.if-is_kept.true))

pub returns : goal.returns
returns c = sym (none_set c.args.gone.now 0 c.args.len (λ q l m. c.loop-i.invariant q (let t = c.loop-i-test.false in omega arith)))
