use Rattle.finding_rules.proofs.Common.{sym, arith, is_open, any_false, any_true}
use Rattle.finding_rules.proofs.conditions.has_unfinished.Goals as goal

pub returns-in-Some : goal.returns-in-Some
returns-in-Some c = let next = c.in-Some.ensures.some in sym (any_true is_open c.args.state.now.table _ next.row next.there next.passes)

pub returns-in-None : goal.returns-in-None
returns-in-None c = sym (any_false is_open c.args.state.now.table (λ j x e. c.in-None.ensures.none j x (omega arith) e))
