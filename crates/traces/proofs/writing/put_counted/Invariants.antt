use Rattle.std.proofs.Common.{◌≡◌, ◌++◌, length, take}
use Rattle.std.specs.List.{flat_map, AllByRecursion}
use Rattle.byteorder.specs.Endian.{little_bytes}
use Rattle.traces.specs.Spelling.{event_bytes, Fits}
use Rattle.traces.proofs.writing.put_counted.Given as goal

abbrev pub invariant-loop-event : goal.invariant-loop-event
invariant-loop-event l =
    (l.out.items ≡ l.fn.out.items ++ (little_bytes 4 (length l.events) ++ flat_map event_bytes (take l.event-index l.events)))
    × AllByRecursion Fits (take l.event-index l.events)
