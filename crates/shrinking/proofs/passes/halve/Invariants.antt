use Rattle.shrinking.specs.Shrinking.{IsKept}
use Rattle.shrinking.proofs.passes.halve.Given as goal

abbrev pub invariant-loop-size : goal.invariant-loop-size
invariant-loop-size l = IsKept l.goal l.best.events.items l.best.sighting

abbrev pub decreases-loop-size : goal.decreases-loop-size
decreases-loop-size l = l.size
