use Rattle.timeline_values.proofs.Common.{◌≡◌, ◌++◌, length, map, rows, change_texts, change_shown}
use Rattle.timeline_values.proofs.changes.change_parts.Given as goal

abbrev pub invariant-loop-rest : goal.invariant-loop-rest
invariant-loop-rest l = map change_texts l.parts.items ++ map (change_shown l.setup) (rows l.rest) ≡ map (change_shown l.setup) (rows l.changes)

abbrev pub decreases-loop-rest : goal.decreases-loop-rest
decreases-loop-rest l = length l.rest
