use Rattle.std.proofs.Common.{◌≡◌, ◌++◌, length, map}
use Rattle.run_log.specs.Lines.{rows}
use Rattle.dap_lists.proofs.changes.rows_of.Given as goal

abbrev pub invariant-loop-rest : goal.invariant-loop-rest
invariant-loop-rest l = map (λ row. row.now) l.list.items ++ rows l.rest ≡ rows l.changes

abbrev pub decreases-loop-rest : goal.decreases-loop-rest
decreases-loop-rest l = length l.rest
