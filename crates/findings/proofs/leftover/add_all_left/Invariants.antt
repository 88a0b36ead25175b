use Rattle.findings.proofs.Common.{◌≡◌, ◌++◌, drop, flat_map, enumerate_from, of_left, all_left}
use Rattle.findings.proofs.leftover.add_all_left.Given as goal

abbrev pub invariant-loop-number : goal.invariant-loop-number
invariant-loop-number l = l.found.items ++ flat_map (of_left l.moment l.over) (enumerate_from l.number (drop l.number l.state.table)) ≡ l.fn.found.items ++ all_left l.moment l.over l.state.table
