use Rattle.std.proofs.Common.{◌+◌, ◌/◌, arith}
use Rattle.bit_sets.proofs.Numbers.{found_first}
use Rattle.bit_sets.proofs.sets.next_word.Goals as goal

pub returns : goal.returns
returns c =
    let short = c.requires.short in
    let few = c.requires.few in
    let found = found_first c.args.summary.now ((c.args.count + 63) / 64) c.args.from c.next_number.result (omega (arith, short, few)) (λ i past. c.requires.past i (omega (arith, past))) c.next_number.ensures.some c.next_number.ensures.none in
    record { some = found.0; none = found.1 }
