use Rattle.std.proofs.Common.{◌≡◌, length}
use Rattle.places.specs.View.{named}
use Rattle.stops.proofs.sites.old_value.Given as goal

abbrev pub invariant-loop-change : goal.invariant-loop-change
invariant-loop-change l = named l.past l.place ≡ named l.changes l.place

abbrev pub decreases-loop-change : goal.decreases-loop-change
decreases-loop-change l = length l.changes
