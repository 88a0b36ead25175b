use Rattle.std.proofs.Common.{◌+◌, ◌∙◌, sym}
use Rattle.watches.specs.Stops.{seen}
use Rattle.watches.proofs.Naming.{unmet_unnamed, met_named}
use Rattle.watches.proofs.searching.meets.Goals as goal

pub returns-then-not-names_place : goal.returns-then-not-names_place
returns-then-not-names_place c =
    let w = c.args.walker.now in
    unmet_unnamed (seen w c.args.moment) (seen w (c.args.moment + 1)) c.record_of.result.now c.args.stop.now c.record_of.ensures.exact (sym c.names_place.ensures ∙ c.if-not-names_place.true)

pub returns : goal.returns
returns c =
    let w = c.args.walker.now in
    met_named (seen w c.args.moment) (seen w (c.args.moment + 1)) c.record_of.result.now c.args.stop.now c.in_ok-found.found c.is_value.result c.record_of.ensures.exact (sym c.names_place.ensures ∙ c.if-not-names_place.false) c.in_ok-found.ensures c.is_value.ensures
