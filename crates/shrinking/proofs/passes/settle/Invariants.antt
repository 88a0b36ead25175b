use Rattle.shrinking.specs.Shrinking.{IsKept}
use Rattle.shrinking.proofs.passes.settle.Given as goal

abbrev pub invariant-loop-round : goal.invariant-loop-round
invariant-loop-round l = IsKept l.goal l.best.events.items l.best.sighting
