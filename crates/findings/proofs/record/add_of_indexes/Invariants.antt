use Rattle.findings.proofs.Common.{◌≡◌, ◌++◌, drop, take, flat_map, sub_list, of_index}
use Rattle.findings.proofs.record.add_of_indexes.Given as goal

abbrev pub invariant-loop-place : goal.invariant-loop-place
invariant-loop-place l = l.found.items ≡ l.fn.found.items ++ flat_map (of_index l.moment l.ring.slots l.range) (take l.place (drop l.passed (sub_list l.ring)))
