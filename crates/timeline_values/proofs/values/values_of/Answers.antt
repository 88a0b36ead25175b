use Rattle.std.proofs.Common.{◌≡◌, ◌∙◌, ap, arith}
use Rattle.machine.specs.Whole.{view}
use Rattle.timeline_values.specs.Values.{values_below}
use Rattle.timeline_values.proofs.Valued.{all_listed}
use Rattle.timeline_values.proofs.values.values_of.Goals as goal

pub returns : goal.returns
returns c =
    let s = c.args.setup.now in
    let v = view c.args.state.now in
    let end : c.loop-number.number ≡ c.numbered_below-end.result = omega arith in
    all_listed s v c.loop-number.number c.args.count _ c.loop-number.invariant (ap (values_below s v) end ∙ c.numbered_below-end.ensures s)
