use Rattle.std.proofs.Common.{arith}
use Rattle.places.proofs.Summing.{summed_note, summed_whole}
use Rattle.places.proofs.summary.with_notes.Goals as goal

pub loop-note-preserved : goal.loop-note-preserved
loop-note-preserved g c = record {
  summed = summed_note g.N.Slotted.change c.loop-note.all c.with_place-all.result c.args.notes.now c.loop-note.note-index c.note-item.result c.place.result c.loop-note-test.true c.note-item.is c.place.ensures c.loop-note.invariant.summed c.with_place-all.ensures.kept c.with_place-all.ensures.set;
  kept = λ i h. c.with_place-all.ensures.kept i (c.loop-note.invariant.kept i h);
}

pub returns-clause-set : goal.returns-clause-set
returns-clause-set g c =
    summed_whole g.N.Slotted.change c.loop-note.all c.args.notes.now c.loop-note.note-index (let h = c.loop-note-test.false in omega arith) c.loop-note.invariant.summed
