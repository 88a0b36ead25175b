use Rattle.std.proofs.Common.{subst, ◌∙◌}
use Rattle.machine.specs.Whole.{view}
use Rattle.timeline_values.specs.Values.{AreRegions}
use Rattle.timeline_values.proofs.Valued.{are_values}
use Rattle.timeline_values.proofs.values.all_values_below.Goals as goal

pub returns : goal.returns
returns c =
    let s = c.args.setup.now in
    let v = view c.args.state.now in
    let same = c.deref.ensures.value ∙ c.in_ok-regions.ensures in
    are_values s v c.args.count _ _ c.requires.count c.in_ok-values.ensures
    (subst (λ gs. AreRegions s v c.args.count gs c.in_ok-regions-2.regions.items) same c.in_ok-regions-2.ensures)
