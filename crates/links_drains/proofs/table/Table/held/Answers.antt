use Rattle.links_drains.proofs.Tallying.{is_held_tallied}
use Rattle.links_drains.proofs.table.Table.held.Goals as goal

pub returns : goal.returns
returns c = rw (← c.self.view_is) (is_held_tallied c.self.inside.rows c.self.inside.held c.self.invariant.tallied)
