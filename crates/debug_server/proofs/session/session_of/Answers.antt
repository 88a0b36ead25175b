use Rattle.std.proofs.Common.{◌≡◌, ℕ, ap, subst, IfErr}
use Rattle.machine.specs.Runs.{IsRefused}
use Rattle.scenario.specs.declared.event.Refusal.{Refusal}
use Rattle.scenario.specs.declared.setup.Setup.{Setup}
use Rattle.debug_server.specs.declared.faults.RunFault.TheVariants.{Schedule}
use Rattle.debug_server.proofs.session.session_of.Goals as goal

pub returns-in-Ok-clause-schedule : goal.returns-in-Ok-clause-schedule
returns-in-Ok-clause-schedule c =
    subst (λ (s : Setup). IfErr c.session_at_end.result (λ e. (i : ℕ) (n : Refusal) → e ≡ Schedule i n → IsRefused s c.args.events.now i n)) (ap (λ w. w.setup) c.in-Ok.ensures.fresh) c.session_at_end.ensures.schedule
