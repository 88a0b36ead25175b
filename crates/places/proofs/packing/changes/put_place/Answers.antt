use Rattle.places.proofs.packing.changes.put_place.Goals as goal

pub returns-clause-put : goal.returns-clause-put
returns-clause-put c = rw (← c.head_of.ensures) c.in_ok-put_numbers.ensures
