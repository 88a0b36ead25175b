use Rattle.std.proofs.Common.{rules, ◌≡◌, ℕ, IfOk, ◌∙◌, sym, subst}
use Rattle.live_runner.proofs.Passing.{passed_all, passed_closed}
use Rattle.live_runner.proofs.running.run_over.Goals as goal

pub returns-in-Some-clause-same : goal.returns-in-Some-clause-same
returns-in-Some-clause-same g c =
    subst (λ (n : ℕ). IfOk c.close.result (λ r. (r.setup ≡ c.args.setup.now) × (r.actors ≡ n))) c.actors.ensures.value c.close.ensures.same

pub returns-in-Some-clause-strange : goal.returns-in-Some-clause-strange
returns-in-Some-clause-strange g c = λ s k strange same count. (c.close.ensures.strange s k strange).2 same (count ∙ sym c.actors.ensures.value)

pub returns-in-Some-clause-passed : goal.returns-in-Some-clause-passed
returns-in-Some-clause-passed g c =
    passed_closed g.G.Gate.opens g.G.Gate.shuts c.close.result c.args.gate.now c.args.turns _ c.close.ensures.closed
    (passed_all g.G.Gate.opens g.G.Gate.shuts c.args.gate.now c.args.turns c.in-Some.workers.items c.into_inner.result (search rules) (search rules))
