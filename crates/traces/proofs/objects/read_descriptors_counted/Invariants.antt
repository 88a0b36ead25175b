use Rattle.std.proofs.Common.{◌≡◌, ◌-◌, []}
use Rattle.traces.specs.Cursors.{at_offset}
use Rattle.traces.specs.Reading.{descriptor_at, items_at}
use Rattle.traces.proofs.objects.read_descriptors_counted.Given as goal

abbrev pub invariant-loop : goal.invariant-loop
invariant-loop l =
    items_at (λ before. descriptor_at l.objects) (l.count - l.counter) l.descriptors.items (at_offset l.bytes l.at) ≡ items_at (λ before. descriptor_at l.objects) l.count [] (at_offset l.bytes l.fn.offset)
