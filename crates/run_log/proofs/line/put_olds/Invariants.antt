use Rattle.run_log.proofs.Common.{◌≡◌, ◌++◌, take, olds_text}
use Rattle.run_log.proofs.line.put_olds.Given as goal

abbrev pub invariant-loop-changed : goal.invariant-loop-changed
invariant-loop-changed l = l.out.items ≡ l.fn.out.items ++ olds_text (take l.changed-index l.row)
