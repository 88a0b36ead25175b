use Rattle.std.proofs.Common.{sym, ◌∙◌}
use Rattle.conclusions.proofs.Clashes.{one_place, two_places}
use Rattle.conclusions.proofs.sought.clash.Goals as goal

pub returns-then-equals : goal.returns-then-equals
returns-then-equals c = one_place _ _ _ (sym c.equals.ensures ∙ c.if-equals.true) c.equals-then-equals.ensures

pub returns-else-equals : goal.returns-else-equals
returns-else-equals c = two_places _ _ _ c.equals.ensures c.if-equals.false
