use Rattle.findings.proofs.Common.{◌≡◌, ◌++◌, take, flat_map, of_number}
use Rattle.findings.proofs.record.add_of_numbers.Given as goal

abbrev pub invariant-loop-number : goal.invariant-loop-number
invariant-loop-number l = l.found.items ≡ l.fn.found.items ++ flat_map (of_number l.at.moment l.at.setup.now l.at.state.now l.effect) (take l.number-index l.numbers)
