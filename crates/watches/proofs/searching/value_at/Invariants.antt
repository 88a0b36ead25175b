use Rattle.std.proofs.Common.{◌≡◌}
use Rattle.watches.specs.Stops.{seen}
use Rattle.watches.proofs.searching.value_at.Given as goal

abbrev pub invariant-loop-next : goal.invariant-loop-next
invariant-loop-next l = seen l.walker l.moment l.place ≡ seen l.walker l.next l.place
