use Rattle.std.proofs.Common.{rules, length}
use Rattle.places.proofs.ByteLemmas.{noted_run, kept_more}
use Rattle.places.proofs.MaskedLemmas.{masked_more, masked_once}
use Rattle.places.specs.Masked.{masked, marks_from}
use Rattle.places.proofs.notes.runs.ByteNotes.note.Goals as goal

pub invariant_of-self-2 : goal.invariant_of-self-2
invariant_of-self-2 c =
    rw (c.push_reserved.ensures.items, c.in_ok-append.ensures.olds, c.in_ok-reserve.ensures.items)
    (masked_once _ _ _ _ _ _ c.self.invariant c.in_ok-append.ensures.kept (search rules) (search rules) (λ i h. rw (← c.self.view_is) at (c.requires.fresh i h)))

pub returns-clause-ok : goal.returns-clause-ok
returns-clause-ok c =
    rw (c.push_reserved.ensures.items, c.in_ok-append.ensures.olds, c.in_ok-reserve.ensures.items, ← c.self.view_is, masked_more c.self.inside.olds.items c.args.old.now c.self.inside.gone.items _ c.in_ok-append.ensures.kept c.self.invariant.fresh)
    (noted_run _ _ _ _ c.self.invariant.once.fits (search rules))

pub returns-clause-kept : goal.returns-clause-kept
returns-clause-kept c = λ h. rw (c.in_ok-append.ensures.olds, masked_more c.self.inside.olds.items c.args.old.now c.self.inside.gone.items _ c.in_ok-append.ensures.kept c.self.invariant.fresh) (kept_more (masked c.self.inside.olds.items (marks_from c.self.inside.gone.items 0 (length c.self.inside.olds.items))) c.args.old.now (rw (← c.self.view_is) at h))
