use Rattle.std.proofs.Common.{◌∙◌, ap}
use Rattle.std.specs.List.{list_any}
use Rattle.scenario.specs.Setups.{is_named}
use Rattle.script.proofs.Numbered.{any_named}
use Rattle.script.proofs.names.NamedObjects.has.Goals as goal

pub returns : goal.returns
returns c =
    c.contains.ensures
    ∙ any_named c.args.name.now c.self.inside.names.keys c.self.inside.objects.items c.self.invariant.names
    ∙ ap (list_any (is_named c.args.name.now)) c.self.view_is
