use Rattle.run_log.proofs.Common.{◌≡◌, ◌++◌, length, flat_map, line_text, rows}
use Rattle.run_log.proofs.line.put_lines.Given as goal

abbrev pub invariant-loop-rest : goal.invariant-loop-rest
invariant-loop-rest l = l.out.items ++ flat_map (line_text l.setup) (rows l.rest) ≡ l.fn.out.items ++ flat_map (line_text l.setup) (rows l.changes)

abbrev pub decreases-loop-rest : goal.decreases-loop-rest
decreases-loop-rest l = length l.rest
