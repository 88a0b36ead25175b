use Rattle.links_drains.proofs.Common.{◌≡◌, false}
use Rattle.links_drains.proofs.Batching.{Adding, Listed, PassTo}
use Rattle.links_drains.proofs.table.Table.add_rows.Given as goal

abbrev pub invariant-loop-i : goal.invariant-loop-i
invariant-loop-i l = record {
  adding : Adding l.world l.fn.self l.self l.fn.notes l.notes l.entries l.i l.unit;
  listed : Listed l.world l.entries l.i l.errors.items;
  passes : l.submit_all ≡ false → PassTo l.world l.entries l.i;
}
