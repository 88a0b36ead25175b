use Rattle.std.proofs.Common.{◌∙◌, sym}
use Rattle.symptoms.proofs.Taking.{took_unnamed, took_named}
use Rattle.symptoms.proofs.reaching.took.Goals as goal

pub returns-then-names_one : goal.returns-then-names_one
returns-then-names_one c = λ old x. took_named old _ _ _ _ x (sym c.names_one.ensures ∙ c.if-names_one.true) c.hold_all.ensures

pub returns : goal.returns
returns c = λ old x. took_unnamed old _ _ _ x (sym c.names_one.ensures ∙ c.if-names_one.false)
