use Rattle.std.proofs.Common.{◌≡◌, ℕ, IfOk, IfErr, subst}
use Rattle.clients.specs.Serving.{IsOfServing}
use Rattle.clients.proofs.running.serve_over.Goals as goal

pub returns-in-Ok-run_with_clients-clause-same : goal.returns-in-Ok-run_with_clients-clause-same
returns-in-Ok-run_with_clients-clause-same g c =
    subst (λ (n : ℕ). IfOk c.close_run.result (λ r. (r.setup ≡ c.args.setup.now) × (r.actors ≡ n))) c.actors.ensures.value c.close_run.ensures.same

pub returns-in-Ok-run_with_clients-clause-other : goal.returns-in-Ok-run_with_clients-clause-other
returns-in-Ok-run_with_clients-clause-other g c =
    subst (λ (n : ℕ). IfErr c.close_run.result (IsOfServing c.args.setup.now n)) c.actors.ensures.value c.close_run.ensures.other
