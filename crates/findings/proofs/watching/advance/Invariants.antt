use Rattle.findings.proofs.Common.{◌≡◌, ◌++◌, take, drop, map, advanced}
use Rattle.findings.proofs.watching.advance.Given as goal

abbrev pub invariant-loop-watch : goal.invariant-loop-watch
invariant-loop-watch l = l.watches ≡ map (advanced l.setup l.state l.moment) (take l.watch-index l.fn.watches) ++ drop l.watch-index l.fn.watches
