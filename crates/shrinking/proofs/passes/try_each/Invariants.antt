use Rattle.shrinking.specs.Shrinking.{IsKept}
use Rattle.shrinking.proofs.passes.try_each.Given as goal

abbrev pub invariant-loop-index : goal.invariant-loop-index
invariant-loop-index l = IsKept l.goal l.best.events.items l.best.sighting
