use Rattle.std.proofs.Common.{◌≡◌, drop}
use Rattle.std.specs.Prelude.{map}
use Rattle.places.specs.Notes.{left}
use Rattle.places.specs.Slots.{row_change}
use Rattle.places.proofs.record.left_of.Given as goal

abbrev pub invariant-loop-note : goal.invariant-loop-note
invariant-loop-note l = left l.list (map row_change (drop l.note-index l.rows)) l.left ≡ left l.list (map row_change l.rows) l.n
