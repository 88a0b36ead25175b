use Rattle.std.proofs.Common.{◌<◌, ◌*◌, length, arith}
use Rattle.bit_sets.proofs.Differences.{difference_here, difference_past, has_below}
use Rattle.bit_sets.proofs.sets.BitSet.next_in_difference.Goals as goal

pub returns-in-Some-next_bit-clause-some : goal.returns-in-Some-next_bit-clause-some
returns-in-Some-next_bit-clause-some c =
    let word = c.word_of_difference-word.ensures in
    difference_here c.args.self.now c.args.other.now c.args.from c.words.at c.in-Some.k c.in-Some-next_bit.bit word.fits c.words.invariant.past c.words.invariant.before c.in-Some.ensures.some
    (rw word.value at c.in-Some-next_bit.ensures.some)

pub overflow_add-at : goal.overflow_add-at
overflow_add-at c =
    let below : c.in-Some.k < 64 * length c.args.self.now = has_below c.args.self.now c.in-Some.k c.in-Some.ensures.some.member in
    omega (arith, c.word_of_difference-word.ensures.few)

pub words-smaller : goal.words-smaller
words-smaller c =
    let below : c.in-Some.k < 64 * length c.args.self.now = has_below c.args.self.now c.in-Some.k c.in-Some.ensures.some.member in
    omega (arith, c.word_of_difference-word.ensures.few, c.in-Some.ensures.some.after)

pub words-preserved : goal.words-preserved
words-preserved c =
    let word = c.word_of_difference-word.ensures in
    record {
      past = omega (arith, c.words.invariant.past, c.in-Some.ensures.some.after);
      before = difference_past c.args.self.now c.args.other.now c.args.from c.words.at c.in-Some.k word.fits c.words.invariant.before c.in-Some.ensures.some (rw word.value at c.in_default-next_bit.ensures.none);
    }
