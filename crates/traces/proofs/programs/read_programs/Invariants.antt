use Rattle.std.proofs.Common.{◌≡◌, ◌-◌, []}
use Rattle.traces.specs.Cursors.{at_offset}
use Rattle.traces.specs.Reading.{program_at, items_at}
use Rattle.traces.proofs.programs.read_programs.Given as goal

abbrev pub invariant-loop : goal.invariant-loop
invariant-loop l =
    items_at (λ before. program_at l.slots) (l.count - l.counter) l.programs.items (at_offset l.bytes l.at) ≡ items_at (λ before. program_at l.slots) l.count [] (at_offset l.bytes l.fn.offset)
