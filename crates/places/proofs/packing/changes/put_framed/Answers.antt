use Rattle.places.proofs.ChangeLemmas.{framed_put}
use Rattle.places.proofs.packing.changes.put_framed.Goals as goal

pub returns : goal.returns
returns c = λ v r. framed_put c.args.place c.args.index _ c.requires.again c.ranges.index.fits v c.args.shape _ _ _ c.requires.framed c.in_ok-put_place.ensures.put c.in_ok-put_frame.ensures r
