use Rattle.std.proofs.Common.{take}
use Rattle.std.specs.Prelude.{map}
use Rattle.places.specs.Summaries.{HasAll, Summed}
use Rattle.places.proofs.summary.with_notes.Given as goal

abbrev pub invariant-loop-note : goal.invariant-loop-note
invariant-loop-note g l = record {
  summed : Summed l.all (map g.N.Slotted.change (take l.note-index l.notes));
  kept : HasAll l.bits l.all;
}
