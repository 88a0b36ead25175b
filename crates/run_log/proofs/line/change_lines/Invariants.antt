use Rattle.run_log.proofs.Common.{◌≡◌, ◌++◌, length, map, change_text, rows}
use Rattle.run_log.proofs.line.change_lines.Given as goal

abbrev pub invariant-loop-rest : goal.invariant-loop-rest
invariant-loop-rest l = map (λ line. line.items) l.lines.items ++ map (change_text l.setup) (rows l.rest) ≡ map (change_text l.setup) (rows l.changes)

abbrev pub decreases-loop-rest : goal.decreases-loop-rest
decreases-loop-rest l = length l.rest
