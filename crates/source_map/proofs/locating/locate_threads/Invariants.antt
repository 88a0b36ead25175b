use Rattle.std.proofs.Common.{take}
use Rattle.source_map.specs.Maps.{AreThreads}
use Rattle.source_map.specs.Positions.{IsCursor}
use Rattle.source_map.proofs.locating.locate_threads.Given as goal

abbrev pub invariant-loop-i : goal.invariant-loop-i
invariant-loop-i l = record {
  items : AreThreads l.size l.text 0 l.located.items (take l.i l.threads);
  cursor : IsCursor l.text l.cursor;
}
