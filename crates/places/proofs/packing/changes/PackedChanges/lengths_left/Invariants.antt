use Rattle.std.proofs.Common.{◌≡◌, length}
use Rattle.places.specs.declared.listed.Listed.TheVariants.{Requests, Overflowed}
use Rattle.places.specs.Notes.{left}
use Rattle.places.proofs.packing.changes.PackedChanges.lengths_left.Given as goal

abbrev pub invariant-loop-head : goal.invariant-loop-head
invariant-loop-head l = record {
  rows : left Requests l.self l.rows_left ≡ left Requests l.initial.self l.rows;
  backlog : left Overflowed l.self l.backlog_left ≡ left Overflowed l.initial.self l.backlog;
}

abbrev pub decreases-loop-head : goal.decreases-loop-head
decreases-loop-head l = length l.self
