use Rattle.std.proofs.Common.{take}
use Rattle.std.specs.Prelude.{map}
use Rattle.compact_size.specs.Reading.{Puts}
use Rattle.places.specs.Packed.{change_of, after_change}
use Rattle.places.proofs.packing.packed.put_notes.Given as goal

abbrev pub invariant-loop-note : goal.invariant-loop-note
invariant-loop-note g l = Puts change_of after_change l.fn.out.items (map g.N.Slotted.change (take l.note-index l.notes)) l.out.items
