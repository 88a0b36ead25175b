use Rattle.std.proofs.Common.{◌≡◌}
use Rattle.std.specs.Prelude.{is_some}
use Rattle.places.specs.View.{named}
use Rattle.places.proofs.notes.byte_changes.Stretches.names.Given as goal

abbrev pub invariant-loop-stretch : goal.invariant-loop-stretch
invariant-loop-stretch l = is_some (named l.self.left l.place) ≡ is_some (named l.initial.self.left l.place)

abbrev pub decreases-loop-stretch : goal.decreases-loop-stretch
decreases-loop-stretch l = l.self.work
