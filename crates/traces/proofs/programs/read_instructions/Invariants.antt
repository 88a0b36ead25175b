use Rattle.std.proofs.Common.{◌≡◌, ◌-◌, []}
use Rattle.traces.specs.Cursors.{at_offset}
use Rattle.traces.specs.Reading.{instruction_at, items_at}
use Rattle.traces.proofs.programs.read_instructions.Given as goal

abbrev pub invariant-loop : goal.invariant-loop
invariant-loop l =
    items_at (λ before. instruction_at l.slots) (l.count - l.counter) l.program.items (at_offset l.bytes l.at) ≡ items_at (λ before. instruction_at l.slots) l.count [] (at_offset l.bytes l.fn.offset)
