use Rattle.std.proofs.Common.{◌≡◌, sym, ◌∙◌, subst, Option, Some, IfErr}
use Rattle.machine.proofs.Common.{Refusal, Waiting}
use Rattle.machine.proofs.PlanLemmas.{return_planned, step_refusal}
use Rattle.machine.proofs.whole.Machine.plan_step.Goals as goal

pub returns-in-Waiting-clause-err : goal.returns-in-Waiting-clause-err
returns-in-Waiting-clause-err c =
    let m = c.args.self.now in
    let i = c.in-Some-next.instruction.now in
    let same = c.refuses_wait.ensures c.in-Waiting.n i ∙ sym (step_refusal m c.args.t c.in-Some.thread.now (Waiting c.in-Waiting.n c.in-Waiting.needed) i (sym c.in-Some.ensures) (sym c.in-Waiting.ensures) (sym c.in-Some-next.ensures)) in
    subst (λ (o : Option Refusal). IfErr c.unless-in-Waiting.result (λ n. o ≡ Some n)) same c.unless-in-Waiting.ensures.err

pub returns-in-Waiting-clause-ok : goal.returns-in-Waiting-clause-ok
returns-in-Waiting-clause-ok c =
    let m = c.args.self.now in
    let i = c.in-Some-next.instruction.now in
    let same = c.refuses_wait.ensures c.in-Waiting.n i ∙ sym (step_refusal m c.args.t c.in-Some.thread.now (Waiting c.in-Waiting.n c.in-Waiting.needed) i (sym c.in-Some.ensures) (sym c.in-Waiting.ensures) (sym c.in-Some-next.ensures)) in
    return_planned m c.args.t c.in-Waiting.n c.in-Waiting.needed c.in-Some.thread.now c.refuses_wait.result c.unless-in-Waiting.result (sym c.in-Some.ensures) (sym c.in-Waiting.ensures) same c.unless-in-Waiting.ensures.ok
