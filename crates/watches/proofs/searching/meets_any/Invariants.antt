use Rattle.std.proofs.Common.{◌+◌, take}
use Rattle.watches.specs.Stops.{NoneMet, seen}
use Rattle.watches.proofs.searching.meets_any.Given as goal

abbrev pub invariant-loop-stop : goal.invariant-loop-stop
invariant-loop-stop l = NoneMet (seen l.walker l.moment) (seen l.walker (l.moment + 1)) (take l.stop-index l.breaks)
