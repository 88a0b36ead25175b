use Rattle.std.proofs.Common.{◌≡◌, ◌/◌, get_or, arith}
use Rattle.std.proofs.lemmas.List.{get_or_read, length-set}
use Rattle.bit_sets.proofs.Bits.{has_written}
use Rattle.bit_sets.proofs.Numbers.{summed_written}
use Rattle.bit_sets.proofs.sets.BitSet.write.Goals as goal

pub invariant_of-self : goal.invariant_of-self
invariant_of-self c =
    let within = rw (← c.self.view_is) at c.requires in
    let few = c.self.invariant.few in
    let short = c.self.invariant.short in
    summed_written c.self.inside.words.items c.self.inside.summary _ (c.args.k / 64) c.with_bit-word.result c.self.invariant (omega arith)
    (length-set c.self.inside.summary (c.args.k / 64 / 64) c.with_bit.result) (has_written c.self.inside.summary (c.args.k / 64) c.with_bit.result _ (omega arith) c.with_bit.ensures)

pub returns-clause-has : goal.returns-clause-has
returns-clause-has c =
    let within = rw (← c.self.view_is) at c.requires in
    let read : c.index.result.now ≡ get_or c.self.inside.words.items (c.args.k / 64) 0 = get_or_read c.self.inside.words.items (c.args.k / 64) c.index.result.now (omega arith) c.index.ensures 0 in
    rw (← c.self.view_is) (has_written c.self.inside.words.items c.args.k _ _ (omega arith) (rw read at c.with_bit-word.ensures))
