use Rattle.std.proofs.Common.{◌≡◌, ◌++◌, take}
use Rattle.run_log.specs.Lines.{olds_text}
use Rattle.dap_lists.proofs.changes.put_olds.Given as goal

abbrev pub invariant-loop-changed : goal.invariant-loop-changed
invariant-loop-changed l = l.out.items ≡ l.fn.out.items ++ olds_text (take l.changed-index l.row)
