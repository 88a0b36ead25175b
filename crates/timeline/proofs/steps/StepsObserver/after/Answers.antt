use Rattle.timeline.proofs.Common.{rules, ◌≡◌, ◌∙◌, sym, ap, true, false, has}
use Rattle.timeline.proofs.Stepping.{steps_more, steps_same}
use Rattle.timeline.proofs.steps.StepsObserver.after.Goals as goal

pub returns-in_ok-push-clause-ok : goal.returns-in_ok-push-clause-ok
returns-in_ok-push-clause-ok g c =
    let on : has c.args.self.now.range c.args.at.index ≡ true = search rules in
    let in_range = ap (λ r. has r c.args.at.index) (sym c.requires.seen.0) ∙ on in
    (c.requires.seen.0, steps_more _ _ _ c.args.at.index _ _ c.in_ok-step_of.field-0 in_range c.in_ok-push.ensures.items c.in_ok-step_of.ensures c.requires.seen.1)

pub returns-else-has-clause-ok : goal.returns-else-has-clause-ok
returns-else-has-clause-ok g c =
    let off : has c.args.self.now.range c.args.at.index ≡ false = search rules in
    let in_range = ap (λ r. has r c.args.at.index) (sym c.requires.seen.0) ∙ off in
    (c.requires.seen.0, steps_same _ _ _ c.args.at.index _ in_range c.requires.seen.1)
