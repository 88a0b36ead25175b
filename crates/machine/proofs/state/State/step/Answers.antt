use Rattle.machine.proofs.Common.{sym, subst, ◌∙◌, WellFormed, exact_led}
use Rattle.machine.proofs.{Formed.formed_after, PuttingBack.back_from_exact, Linking.back_from_keeps, Linking.none_named}
use Rattle.machine.proofs.state.State.step.Goals as goal

pub invariant_of-self : goal.invariant_of-self
invariant_of-self c =
    let plan = c.in_ok-plan.ensures.ok in
    (subst WellFormed (sym (c.in-Ok.ensures.ok ∙ plan.same)) (formed_after _ _ c.self.invariant.0 plan.accepted), c.finish-past.ensures.none)

pub restore-requires : goal.restore-requires
restore-requires c =
    let led = back_from_keeps _ _ _ _ c.self.invariant.1 c.perform-done.ensures.keeps in
    let back = back_from_exact _ _ _ (exact_led _ _ _ _ led c.finish-past.ensures.exact) in
    (c.self.inside.machine, record { formed = c.self.invariant.0; grows = c.perform-done.ensures.grows; back = back })

pub invariant_of-self-in-Err : goal.invariant_of-self-in-Err
invariant_of-self-in-Err c =
    let led = back_from_keeps _ _ _ _ c.self.invariant.1 c.perform-done.ensures.keeps in
    let back = back_from_exact _ _ _ (exact_led _ _ _ _ led c.finish-past.ensures.exact) in
    let restored = c.restore.ensures.back in
    (subst WellFormed (sym (restored c.self.inside.machine (record { formed = c.self.invariant.0; grows = c.perform-done.ensures.grows; back = back }))) c.self.invariant.0, c.finish-past.ensures.none)

pub returns-in-Ok-clause-exact : goal.returns-in-Ok-clause-exact
returns-in-Ok-clause-exact c =
    let led = back_from_keeps _ _ _ _ c.self.invariant.1 c.perform-done.ensures.keeps in
    rw (← c.self.view_is) (exact_led _ _ _ _ led c.finish-past.ensures.exact)

pub returns-in-Ok-clause-leads_back : goal.returns-in-Ok-clause-leads_back
returns-in-Ok-clause-leads_back c =
    let led = back_from_keeps _ _ _ _ c.self.invariant.1 c.perform-done.ensures.keeps in
    rw (← c.self.view_is) (back_from_exact _ _ _ (exact_led _ _ _ _ led c.finish-past.ensures.exact))

pub returns-in-Err-clause-err : goal.returns-in-Err-clause-err
returns-in-Err-clause-err c =
    let led = back_from_keeps _ _ _ _ c.self.invariant.1 c.perform-done.ensures.keeps in
    let back = back_from_exact _ _ _ (exact_led _ _ _ _ led c.finish-past.ensures.exact) in
    let restored = c.restore.ensures.back in
    rw (← c.self.view_is) (restored c.self.inside.machine (record { formed = c.self.invariant.0; grows = c.perform-done.ensures.grows; back = back }))

pub perform-done-requires-clause-fresh : goal.perform-done-requires-clause-fresh
perform-done-requires-clause-fresh c p = none_named _ p c.self.invariant.1
