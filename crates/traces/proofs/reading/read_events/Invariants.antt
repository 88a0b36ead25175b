use Rattle.std.proofs.Common.{◌≡◌, ◌++◌, ◌*◌, length, drop}
use Rattle.std.specs.List.{flat_map, AllByRecursion}
use Rattle.traces.specs.Spelling.{event_bytes, Fits}
use Rattle.traces.specs.Faults.{AreClean}
use Rattle.traces.proofs.reading.read_events.Given as goal

abbrev pub invariant-loop : goal.invariant-loop
invariant-loop l = record {
  place : l.rest ≡ drop (16 * l.counter) l.bytes;
  read : l.bytes ≡ flat_map event_bytes l.events.items ++ l.rest;
  count : length l.events.items ≡ l.counter;
  fits : AllByRecursion Fits l.events.items;
  clean : AreClean l.counter l.bytes;
}
