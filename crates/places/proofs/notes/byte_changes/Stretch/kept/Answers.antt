use Rattle.std.proofs.Common.{◌+◌, ◌∙◌, ap, sym, length}
use Rattle.std.specs.Prelude.{Some, slice_index_or}
use Rattle.std.proofs.lemmas.Option.{slice_get-get_or}
use Rattle.places.specs.Masked.{is_kept, marks_from, kept_byte}
use Rattle.places.proofs.MarkLemmas.{mark_there}
use Rattle.places.proofs.MaskedLemmas.{masked_here}
use Rattle.places.proofs.notes.byte_changes.Stretch.kept.Goals as goal

pub returns-then-is_kept : goal.returns-then-is_kept
returns-then-is_kept c =
    masked_here c.args.self.now.olds.now (marks_from c.args.self.now.gone.now c.args.self.now.mark (length c.args.self.now.olds.now)) c.args.i _ (is_kept c.args.self.now.gone.now (c.args.self.now.mark + c.args.i))
    (slice_get-get_or c.args.self.now.olds.now c.args.i 0 c.requires.within) (mark_there c.args.self.now.gone.now c.args.self.now.mark (length c.args.self.now.olds.now) c.args.i c.requires.within)
    ∙ ap (λ k. Some (kept_byte k (slice_index_or c.args.self.now.olds.now c.args.i 0))) (sym c.is_kept.ensures ∙ c.if-is_kept.true)

pub returns-else-is_kept : goal.returns-else-is_kept
returns-else-is_kept c =
    masked_here c.args.self.now.olds.now (marks_from c.args.self.now.gone.now c.args.self.now.mark (length c.args.self.now.olds.now)) c.args.i _ (is_kept c.args.self.now.gone.now (c.args.self.now.mark + c.args.i))
    (slice_get-get_or c.args.self.now.olds.now c.args.i 0 c.requires.within) (mark_there c.args.self.now.gone.now c.args.self.now.mark (length c.args.self.now.olds.now) c.args.i c.requires.within)
    ∙ ap (λ k. Some (kept_byte k (slice_index_or c.args.self.now.olds.now c.args.i 0))) (sym c.is_kept.ensures ∙ c.if-is_kept.false)
