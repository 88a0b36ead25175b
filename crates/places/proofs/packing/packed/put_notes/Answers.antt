use Rattle.std.proofs.Common.{ap, subst, arith}
use Rattle.std.specs.Prelude.{map}
use Rattle.std.proofs.lemmas.List.{take_all}
use Rattle.compact_size.specs.Reading.{Puts}
use Rattle.places.specs.Packed.{change_of, after_change}
use Rattle.compact_size.proofs.ReadingLemmas.{puts_none}
use Rattle.places.proofs.PackedLemmas.{puts_note}
use Rattle.places.proofs.packing.packed.put_notes.Goals as goal

pub loop-note-init : goal.loop-note-init
loop-note-init g c = puts_none change_of after_change c.args.out.now.items

pub loop-note-preserved : goal.loop-note-preserved
loop-note-preserved g c = puts_note g.N.Slotted.change change_of after_change c.args.out.now.items c.loop-note.out.items c.pack.new.out.items c.args.notes.now c.loop-note.note-index c.note-item.result (g.N.Slotted.change c.note-item.result) c.loop-note-test.true (ap g.N.Slotted.change c.note-item.is) c.loop-note.invariant c.in_ok-pack.ensures

pub returns : goal.returns
returns g c = subst (λ ns. Puts change_of after_change c.args.out.now.items (map g.N.Slotted.change ns) c.loop-note.out.items) (take_all c.loop-note.note-index c.args.notes.now (let h = c.loop-note-test.false in omega arith)) c.loop-note.invariant
