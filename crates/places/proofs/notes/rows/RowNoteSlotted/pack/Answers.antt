use Rattle.places.specs.declared.place.Place.TheVariants.{Request}
use Rattle.places.specs.declared.value.Value.TheVariants.{Requested}
use Rattle.places.specs.PlaceNumbers.{place_again}
use Rattle.places.proofs.ChangeLemmas.{other_at}
use Rattle.places.proofs.notes.rows.RowNoteSlotted.pack.Goals as goal

pub put_absence-requires : goal.put_absence-requires
put_absence-requires c = place_again (Request c.in-Absent.row)

pub put_framed-requires-clause-again : goal.put_framed-requires-clause-again
put_framed-requires-clause-again c = place_again (Request c.in-Was.row)

pub put_other-requires : goal.put_other-requires
put_other-requires c = let n = c.in-Other in rw (c.place_of_other.ensures) (other_at n.kind n.index)

pub returns-in_ok-put_absence-in-Absent : goal.returns-in_ok-put_absence-in-Absent
returns-in_ok-put_absence-in-Absent c = rw (c.in-Absent.is) c.in_ok-put_absence-in-Absent.ensures

pub returns-in_ok-put_framed-in-Was : goal.returns-in_ok-put_framed-in-Was
returns-in_ok-put_framed-in-Was c = rw (c.in-Was.is) (c.in_ok-put_framed-in-Was.ensures (Requested c.in-Was.old) c.in-Some.ensures)
