use Rattle.findings.proofs.Common.{◌≡◌, ◌++◌, take, flat_map, of_lasting}
use Rattle.findings.proofs.watching.add_all_lasting.Given as goal

abbrev pub invariant-loop-watch : goal.invariant-loop-watch
invariant-loop-watch l = l.found.items ≡ l.fn.found.items ++ flat_map (of_lasting l.over l.state) (take l.watch-index l.watches)
