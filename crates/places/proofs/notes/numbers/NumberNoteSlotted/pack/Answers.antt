use Rattle.places.proofs.ChangeLemmas.{number_at}
use Rattle.places.proofs.notes.numbers.NumberNoteSlotted.pack.Goals as goal

pub put_number_change-requires : goal.put_number_change-requires
put_number_change-requires c = rw (c.place.ensures) (number_at c.args.self.now.kind c.args.self.now.index)

pub returns : goal.returns
returns c = rw (← c.place.ensures) c.put_number_change.ensures
