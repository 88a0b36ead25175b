use Rattle.links_drains.proofs.Common.{refl, length, slice_get_read}
use Rattle.links_drains.proofs.Units.{first_of_unit}
use Rattle.links_drains.proofs.index.has_row_of.Goals as goal

pub returns-in-Some : goal.returns-in-Some
returns-in-Some c =
    let next = c.in-Some.ensures.some in
    first_of_unit c.args.set.now c.args.rows.now c.args.unit c.in-Some.r c.index.result.now c.requires.chained next (slice_get_read c.args.rows.now (length c.args.rows.now) c.in-Some.r c.index.result.now refl (c.requires.within c.in-Some.r next.member) c.index.ensures) _ refl
