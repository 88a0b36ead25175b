use Rattle.std.proofs.Common.{◌≡◌, ◌-◌, []}
use Rattle.traces.specs.Cursors.{at_offset}
use Rattle.traces.specs.Reading.{object_at, items_at}
use Rattle.traces.proofs.objects.read_objects_counted.Given as goal

abbrev pub invariant-loop : goal.invariant-loop
invariant-loop l =
    items_at object_at (l.count - l.counter) l.objects.items (at_offset l.bytes l.at) ≡ items_at object_at l.count [] (at_offset l.bytes l.fn.offset)
