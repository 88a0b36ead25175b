use Rattle.std.proofs.Common.{take}
use Rattle.compact_size.specs.Reading.{Puts}
use Rattle.compact_size.specs.CompactSizes.{number_of, after}
use Rattle.compact_size.proofs.put_numbers.Given as goal

abbrev pub invariant-loop-number : goal.invariant-loop-number
invariant-loop-number l = Puts number_of after l.fn.out.items (take l.number-index l.numbers) l.out.items
