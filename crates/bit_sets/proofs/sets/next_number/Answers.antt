use Rattle.std.proofs.Common.{arith, ◌/◌, ◌%◌, ◌*◌, inl, inr}
use Rattle.std.proofs.lemmas.Bool.{cases_lt}
use Rattle.bit_sets.proofs.Bits.{has_past}
use Rattle.bit_sets.proofs.Numbers.{next_in_word, none_further, none_more}
use Rattle.bit_sets.proofs.sets.next_number.Goals as goal

pub returns-then-first-words-clause-none : goal.returns-then-first-words-clause-none
returns-then-first-words-clause-none c = λ i h. has_past c.args.words.now i (omega arith)

pub returns-in-Some-clause-some : goal.returns-in-Some-clause-some
returns-in-Some-clause-some c = next_in_word c.args.words.now (c.args.from / 64) c.args.from (c.args.from % 64) _ c.in-Some.ensures.some (omega arith) (λ i low high. absurd (omega arith))

pub words-init : goal.words-init
words-init c = none_further c.args.words.now c.args.from _ c.in_default.ensures.none (λ i low high. absurd (omega arith))

pub returns-in-Some-next_bit-clause-some : goal.returns-in-Some-next_bit-clause-some
returns-in-Some-next_bit-clause-some c = next_in_word c.args.words.now c.words.at c.args.from 0 _ c.in-Some-next_bit.ensures.some (omega arith) (λ i low high. c.words.invariant i low (omega arith))

pub words-preserved : goal.words-preserved
words-preserved c = none_more c.args.words.now c.args.from c.words.at c.in_default-next_bit.ensures.none c.words.invariant

pub returns-clause-none : goal.returns-clause-none
returns-clause-none c = λ i low. elim (cases_lt i (c.words.at * 64)) [
  | inl earlier ↦ c.words.invariant i low earlier
  | inr later ↦ has_past c.args.words.now i (omega arith)
]
