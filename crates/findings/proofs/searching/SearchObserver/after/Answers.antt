use Rattle.findings.proofs.Common.{◌+◌, map, ◌∙◌, ap, subst, arith, slice_get_within, completed_by, Follows, advanced}
use Rattle.findings.proofs.{Followed.seen_more, Lasting.mapped_back, NextSteps.are_next}
use Rattle.findings.proofs.searching.SearchObserver.after.Goals as goal

pub overflow_cast-moment : goal.overflow_cast-moment
overflow_cast-moment c = omega (arith, c.requires.seen.most, slice_get_within _ c.args.at.index c.args.at.event c.requires.at.there)

pub overflow_add-moment : goal.overflow_add-moment
overflow_add-moment c = omega (arith, c.requires.seen.most, slice_get_within _ c.args.at.index c.args.at.event c.requires.at.there)

pub advance-requires : goal.advance-requires
advance-requires c =
    are_next c.args.at.setup.now c.args.at.events.now c.args.at.index c.args.at.event c.args.past.now c.args.at.state.now c.deref_mut.result.now c.requires.at (c.deref_mut.ensures.value ∙ ap (λ w. w.items) c.in_ok-look.ensures.watches ∙ c.requires.seen.watching)

pub returns-clause-ok : goal.returns-clause-ok
returns-clause-ok c =
    let e = c.in_ok-look.ensures in
    let len = c.deref_mut.ensures.len in
    let next = advanced c.args.at.setup.now c.args.at.state.now (c.args.at.index + 1) in
    seen_more _ _ c.args.at.index c.args.at.state.now c.args.at.event c.args.note c.args.past.now _ _ _ _ _ _ _ _ _ _ _ _ c.requires.seen c.requires.note c.requires.at c.clock-clock.ensures.formed e.added e.once e.further
    (mapped_back next _ _ _ _ _ c.deref_mut.ensures.value c.advance.ensures (omega (arith, len)) ∙ ap (λ w. map next w.items) e.watches)
    (subst (λ d. Follows c.args.at.setup.now c.args.at.index c.args.at.state.now (completed_by c.args.at.event c.args.at.state.now) d.writes.items c.follow_files.new.files.writes.items d.suspects.items c.follow_files.new.files.suspects.items d.retried.items c.follow_files.new.files.retried.items) e.files c.in_ok-follow_files.ensures)
