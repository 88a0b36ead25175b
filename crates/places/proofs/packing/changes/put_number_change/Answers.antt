use Rattle.places.proofs.ChangeLemmas.{number_change_put}
use Rattle.places.proofs.packing.changes.put_number_change.Goals as goal

pub returns : goal.returns
returns c = number_change_put c.args.place c.args.index c.args.old _ _ c.requires c.ranges.index.fits (rw (c.head_of.ensures) at c.in_ok-put_numbers.ensures)
