use Rattle.std.proofs.Common.{length}
use Rattle.machine.proofs.Restored.{Restored}
use Rattle.machine.proofs.whole.Machine.overwrite.Given as goal

abbrev pub invariant-loop-place : goal.invariant-loop-place
invariant-loop-place l = Restored l.fn.self l.fn.rest l.self l.rest

abbrev pub decreases-loop-place : goal.decreases-loop-place
decreases-loop-place l = length l.rest

abbrev pub invariant-loop-change : goal.invariant-loop-change
invariant-loop-change l = Restored l.fn.self l.fn.rest l.self l.rest

abbrev pub decreases-loop-change : goal.decreases-loop-change
decreases-loop-change l = length l.rest
