use Rattle.std.proofs.Common.{◌≤◌, take}
use Rattle.script.specs.Instructions.{instruction_at}
use Rattle.source_map.specs.Maps.{AreItems}
use Rattle.source_map.specs.Positions.{IsCursor}
use Rattle.source_map.proofs.Lists.{end_of}
use Rattle.source_map.proofs.locating.locate_program.Given as goal

abbrev pub invariant-loop-i : goal.invariant-loop-i
invariant-loop-i l = record {
  items : AreItems (instruction_at l.size l.thread) l.text 0 0 l.items.items (take l.i l.program);
  cursor : IsCursor l.text l.cursor;
  offset : end_of 0 l.items.items ≤ l.cursor.offset;
}
