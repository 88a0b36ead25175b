use Rattle.std.proofs.Common.{◌≡◌, drop}
use Rattle.places.specs.Notes.{left}
use Rattle.places.proofs.record.left_by.Given as goal

abbrev pub invariant-loop-change : goal.invariant-loop-change
invariant-loop-change l = left l.list (drop l.change-index l.changes) l.left ≡ left l.list l.changes l.n
