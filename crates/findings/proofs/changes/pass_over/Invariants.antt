use Rattle.findings.proofs.Common.{OfNoRow}
use Rattle.findings.proofs.changes.pass_over.Given as goal

abbrev pub invariant-loop-run : goal.invariant-loop-run
invariant-loop-run l = OfNoRow l.rest.left → OfNoRow l.fn.rest.left

abbrev pub decreases-loop-run : goal.decreases-loop-run
decreases-loop-run l = l.rest.work
