use Rattle.std.proofs.Common.{◌≤◌, take}
use Rattle.script.specs.Events.{event_at}
use Rattle.source_map.specs.Maps.{AreItems}
use Rattle.source_map.specs.Positions.{IsCursor}
use Rattle.source_map.proofs.Lists.{end_of}
use Rattle.source_map.proofs.locating.locate_events.Given as goal

abbrev pub invariant-loop-i : goal.invariant-loop-i
invariant-loop-i l = record {
  items : AreItems event_at l.text 0 0 l.items.items (take l.i l.events);
  cursor : IsCursor l.text l.cursor;
  offset : end_of 0 l.items.items ≤ l.cursor.offset;
}
