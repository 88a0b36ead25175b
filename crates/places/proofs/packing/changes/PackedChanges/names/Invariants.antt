use Rattle.std.proofs.Common.{◌≡◌, length}
use Rattle.std.specs.Prelude.{is_some}
use Rattle.places.specs.View.{named}
use Rattle.places.proofs.packing.changes.PackedChanges.names.Given as goal

abbrev pub invariant-loop-head : goal.invariant-loop-head
invariant-loop-head l = is_some (named l.self l.place) ≡ is_some (named l.initial.self l.place)

abbrev pub decreases-loop-head : goal.decreases-loop-head
decreases-loop-head l = length l.self
