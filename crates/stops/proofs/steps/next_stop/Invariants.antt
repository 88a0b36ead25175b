use Rattle.stops.proofs.Points.{PassedUp}
use Rattle.stops.proofs.steps.next_stop.Given as goal

abbrev pub invariant-loop-passed : goal.invariant-loop-passed
invariant-loop-passed l = PassedUp l.events l.thread l.at l.passed
