use Rattle.std.proofs.Common.{sym, ◌∙◌}
use Rattle.places.proofs.Undoing.{names_nothing}
use Rattle.places.proofs.HeadLemmas.{names_first, names_later}
use Rattle.places.proofs.packing.changes.PackedChanges.names.Goals as goal

pub returns-then-is_of : goal.returns-then-is_of
returns-then-is_of c = sym (names_first _ _ _ c.in-Some.ensures c.args.place (sym c.is_of.ensures ∙ c.if-is_of.true)) ∙ c.loop-head.invariant

pub loop-head-preserved : goal.loop-head-preserved
loop-head-preserved c = names_later _ _ _ c.in-Some.ensures c.args.place (sym c.is_of.ensures ∙ c.if-is_of.false) ∙ c.loop-head.invariant

pub returns : goal.returns
returns c = names_nothing _ c.args.place c.in_default.ensures ∙ c.loop-head.invariant
