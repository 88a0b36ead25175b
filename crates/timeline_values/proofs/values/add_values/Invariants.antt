use Rattle.timeline_values.proofs.Common.{◌≡◌, ◌++◌, take, map, view, value_texts, values_of}
use Rattle.timeline_values.proofs.values.add_values.Given as goal

abbrev pub invariant-loop-place : goal.invariant-loop-place
invariant-loop-place l = map value_texts l.out.items ≡ map value_texts l.fn.out.items ++ values_of l.setup (view l.state) (take l.place-index l.places)
