use Rattle.run_log.proofs.Common.{◌≡◌, ◌++◌, length, map, view, changed_to}
use Rattle.run_log.proofs.changed.gathered.Given as goal

abbrev pub invariant-loop-change : goal.invariant-loop-change
invariant-loop-change l = l.list.items ++ map (changed_to (view l.state)) l.rest ≡ map (changed_to (view l.state)) l.past

abbrev pub decreases-loop-change : goal.decreases-loop-change
decreases-loop-change l = length l.rest
