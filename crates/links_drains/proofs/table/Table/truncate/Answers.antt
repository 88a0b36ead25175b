use Rattle.links_drains.proofs.Tallying.{counts_dropped, tallied_cut}
use Rattle.links_drains.proofs.table.Table.truncate.Goals as goal

pub take_all_off-requires : goal.take_all_off-requires
take_all_off-requires c = counts_dropped _ _ _ c.self.invariant.tallied

pub invariant_of-self : goal.invariant_of-self
invariant_of-self c =
    rw c.truncate.ensures (record {
      tallied = tallied_cut _ _ _ _ c.self.invariant.tallied c.take_all_off.ensures;
      indexed = rw c.truncate.ensures at c.cut-then-n-count.ensures;
      findable = c.cut.ensures;
    })
