use Rattle.std.proofs.Common.{◌-◌, ◌∙◌, ap, sym, length, arith, cond}
use Rattle.std.specs.Prelude.{Some, None, slice_get, Bool}
use Rattle.std.proofs.lemmas.Bool.{le-ltb}
use Rattle.places.specs.Masked.{marks_from}
use Rattle.places.proofs.MarkLemmas.{mark_there, mark_past}
use Rattle.places.proofs.notes.byte_changes.Stretch.mark_at.Goals as goal

pub returns-then-index-self : goal.returns-then-index-self
returns-then-index-self c =
    ap (λ (k : Bool). Some k) c.is_kept.ensures
    ∙ sym (mark_there c.args.self.now.gone.now c.args.self.now.mark (length c.args.self.now.olds.now) (c.args.offset - c.args.self.now.start) (omega arith))
    ∙ sym (ap (λ t. cond t None (slice_get (marks_from c.args.self.now.gone.now c.args.self.now.mark (length c.args.self.now.olds.now)) (c.args.offset - c.args.self.now.start))) (le-ltb c.args.offset c.args.self.now.start (omega arith)))

pub returns-else-index-self : goal.returns-else-index-self
returns-else-index-self c =
    sym (mark_past c.args.self.now.gone.now c.args.self.now.mark (length c.args.self.now.olds.now) (c.args.offset - c.args.self.now.start) (omega arith))
    ∙ sym (ap (λ t. cond t None (slice_get (marks_from c.args.self.now.gone.now c.args.self.now.mark (length c.args.self.now.olds.now)) (c.args.offset - c.args.self.now.start))) (le-ltb c.args.offset c.args.self.now.start (omega arith)))
