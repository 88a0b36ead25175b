use Rattle.std.proofs.Common.{◌≡◌}
use Rattle.places.proofs.notes.byte_changes.ByteChanges.next.Given as goal

abbrev pub invariant-loop-change : goal.invariant-loop-change
invariant-loop-change l = l.self.left ≡ l.initial.self.left

abbrev pub decreases-loop-change : goal.decreases-loop-change
decreases-loop-change l = l.self.work
