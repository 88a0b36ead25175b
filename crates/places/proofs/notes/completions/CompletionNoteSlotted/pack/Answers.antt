use Rattle.places.specs.declared.place.Place.TheVariants.{Completion}
use Rattle.places.specs.declared.value.Value.TheVariants.{Completed}
use Rattle.places.specs.PlaceNumbers.{place_again}
use Rattle.places.proofs.notes.completions.CompletionNoteSlotted.pack.Goals as goal

pub put_framed-requires-clause-again : goal.put_framed-requires-clause-again
put_framed-requires-clause-again c = rw (c.place.ensures) (place_again (Completion c.args.self.now.slot))

pub returns : goal.returns
returns c = rw (← c.place.ensures) (c.in_ok-put_framed.ensures (Completed c.args.self.now.old) c.completion_numbers.ensures)
