use Rattle.watches.specs.Stops.{Quiet}
use Rattle.watches.proofs.searching.later.Given as goal

abbrev pub invariant-loop-moment : goal.invariant-loop-moment
invariant-loop-moment l = Quiet l.walker l.watches l.walker.at l.moment
