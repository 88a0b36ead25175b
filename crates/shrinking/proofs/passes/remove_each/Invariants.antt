use Rattle.shrinking.specs.Shrinking.{IsKept}
use Rattle.shrinking.proofs.passes.remove_each.Given as goal

abbrev pub invariant-loop-end : goal.invariant-loop-end
invariant-loop-end l = IsKept l.goal l.best.events.items l.best.sighting

abbrev pub decreases-loop-end : goal.decreases-loop-end
decreases-loop-end l = l.end
