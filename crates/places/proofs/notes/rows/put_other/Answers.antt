use Rattle.places.proofs.notes.rows.put_other.Goals as goal

pub returns-in_ok-put_absence-in-None : goal.returns-in_ok-put_absence-in-None
returns-in_ok-put_absence-in-None c = rw (c.in-None.is) c.in_ok-put_absence-in-None.ensures
