use Rattle.std.proofs.Common.{subst, arith}
use Rattle.std.proofs.lemmas.List.{take_all}
use Rattle.compact_size.specs.Reading.{Puts}
use Rattle.compact_size.specs.CompactSizes.{number_of, after}
use Rattle.compact_size.proofs.ReadingLemmas.{puts_none, puts_next}
use Rattle.compact_size.proofs.put_numbers.Goals as goal

pub loop-number-init : goal.loop-number-init
loop-number-init c = puts_none number_of after c.args.out.now.items

pub loop-number-preserved : goal.loop-number-preserved
loop-number-preserved c = puts_next number_of after c.args.out.now.items c.loop-number.out.items c.put_number.new.out.items c.args.numbers.now c.loop-number.number-index _ c.loop-number-test.true c.loop-number.invariant c.in_ok-put_number.ensures

pub returns : goal.returns
returns c = subst (λ ns. Puts number_of after c.args.out.now.items ns c.loop-number.out.items) (take_all c.loop-number.number-index c.args.numbers.now (let h = c.loop-number-test.false in omega arith)) c.loop-number.invariant
