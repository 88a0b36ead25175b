use Rattle.std.proofs.Common.{◌≡◌, ◌++◌, map}
use Rattle.machine.specs.Whole.{view}
use Rattle.state_places.specs.Lists.{lone_places}
use Rattle.timeline_values.specs.Values.{value_texts, values_of, values_below}
use Rattle.timeline_values.proofs.values.values_of.Given as goal

abbrev pub invariant-loop-number : goal.invariant-loop-number
invariant-loop-number l = map value_texts l.out.items ≡ values_of l.setup (view l.state) lone_places ++ values_below l.setup (view l.state) l.number
