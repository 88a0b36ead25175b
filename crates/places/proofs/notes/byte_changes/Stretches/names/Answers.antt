use Rattle.std.proofs.Common.{sym, ◌∙◌}
use Rattle.places.proofs.Undoing.{names_front, names_back, names_nothing}
use Rattle.places.proofs.notes.byte_changes.Stretches.names.Goals as goal

pub returns-then-names : goal.returns-then-names
returns-then-names c = sym (names_front _ _ _ c.args.place c.in-Some.ensures.yields (sym c.names.ensures ∙ c.if-names.true)) ∙ c.loop-stretch.invariant

pub loop-stretch-preserved : goal.loop-stretch-preserved
loop-stretch-preserved c = names_back _ _ _ c.args.place c.in-Some.ensures.yields (sym c.names.ensures ∙ c.if-names.false) ∙ c.loop-stretch.invariant

pub returns : goal.returns
returns c = names_nothing _ c.args.place c.in_default.ensures.yields ∙ c.loop-stretch.invariant
