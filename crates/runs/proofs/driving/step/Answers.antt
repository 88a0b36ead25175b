use Rattle.runs.proofs.Common.{refl}
use Rattle.runs.proofs.Continuing.{at_more, is_after, refused_at}
use Rattle.runs.proofs.driving.step.Goals as goal

pub after-requires-clause-at : goal.after-requires-clause-at
after-requires-clause-at g c =
    let e = c.in-Ok-step.ensures in
    is_after _ _ c.args.index c.args.state.now c.step.new.self _ _ _ c.requires.within c.requires.at refl e.formed e.next e.exact e.leads_back

pub returns-in-Ok-after-clause-at : goal.returns-in-Ok-after-clause-at
returns-in-Ok-after-clause-at g c = at_more _ _ c.args.index c.args.state.now c.step.new.self _ _ c.requires.within c.requires.at refl c.in-Ok-step.ensures.next

pub returns-in-Err-step-clause-err : goal.returns-in-Err-step-clause-err
returns-in-Err-step-clause-err g c =
    let e = c.in-Err-step.ensures in (
      refused_at _ _ c.args.index c.args.state.now _ _ c.in-Err-step.refusal c.requires.within c.requires.at refl (λ k p. let q = e.refused k p in cc) e.only_memory c.in_default.not-Memory,
      rw e.err c.requires.at,
      c.requires.seen,
    )
