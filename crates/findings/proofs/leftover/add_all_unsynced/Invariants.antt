use Rattle.findings.proofs.Common.{◌≡◌, ◌++◌, flat_map, of_object, numbers_below}
use Rattle.findings.proofs.leftover.add_all_unsynced.Given as goal

abbrev pub invariant-loop-object : goal.invariant-loop-object
invariant-loop-object l = l.found.items ≡ l.fn.found.items ++ flat_map (of_object l.setup l.moment l.state) (numbers_below l.object)
