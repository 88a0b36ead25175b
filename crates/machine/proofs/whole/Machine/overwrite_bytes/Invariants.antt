use Rattle.machine.proofs.Restored.{Restored}
use Rattle.machine.proofs.whole.Machine.overwrite_bytes.Given as goal

abbrev pub invariant-loop-stretch : goal.invariant-loop-stretch
invariant-loop-stretch l = Restored l.fn.self l.fn.rest.left l.self l.rest.left

abbrev pub decreases-loop-stretch : goal.decreases-loop-stretch
decreases-loop-stretch l = l.rest.work
