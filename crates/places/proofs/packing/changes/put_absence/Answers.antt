use Rattle.places.proofs.ChangeLemmas.{absence_put}
use Rattle.places.proofs.packing.changes.put_absence.Goals as goal

pub returns : goal.returns
returns c = absence_put c.args.place c.args.index _ c.requires c.ranges.index.fits _ c.in_ok-put_place.ensures.put
