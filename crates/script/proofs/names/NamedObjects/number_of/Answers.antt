use Rattle.std.proofs.Common.{◌∙◌, ap}
use Rattle.std.specs.Prelude.{position}
use Rattle.scenario.specs.Setups.{is_named}
use Rattle.script.proofs.Numbered.{position_named}
use Rattle.script.proofs.names.NamedObjects.number_of.Goals as goal

pub returns-in-Some : goal.returns-in-Some
returns-in-Some c =
    c.in-Some.ensures.index
    ∙ position_named c.args.name.now c.self.inside.names.keys c.self.inside.objects.items c.self.invariant.names
    ∙ ap (position (is_named c.args.name.now)) c.self.view_is

pub returns-in-None : goal.returns-in-None
returns-in-None c =
    c.in-None.ensures.index
    ∙ position_named c.args.name.now c.self.inside.names.keys c.self.inside.objects.items c.self.invariant.names
    ∙ ap (position (is_named c.args.name.now)) c.self.view_is
