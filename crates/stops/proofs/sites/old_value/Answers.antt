use Rattle.std.proofs.Common.{◌∙◌, ap, sym}
use Rattle.places.specs.View.{named}
use Rattle.stops.proofs.Visits.{named_first, named_next, named_none}
use Rattle.stops.proofs.sites.old_value.Goals as goal

pub returns-then-equals : goal.returns-then-equals
returns-then-equals c =
    sym (c.loop-change.invariant ∙ ap (λ cs. named cs c.args.place) c.in-Some.ensures.yields ∙ named_first c.in-Some.change c.next.new.self c.args.place (sym c.equals.ensures ∙ c.if-equals.true))

pub loop-change-preserved : goal.loop-change-preserved
loop-change-preserved c =
    c.loop-change.invariant ∙ ap (λ cs. named cs c.args.place) c.in-Some.ensures.yields ∙ named_next c.in-Some.change c.next.new.self c.args.place (sym c.equals.ensures ∙ c.if-equals.false)

pub returns : goal.returns
returns c = sym (c.loop-change.invariant ∙ ap (λ cs. named cs c.args.place) c.in_default.ensures.yields ∙ named_none c.args.place)
