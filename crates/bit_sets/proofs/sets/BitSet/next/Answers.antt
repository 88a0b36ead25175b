use Rattle.std.proofs.Common.{◌≡◌, ◌/◌, ◌%◌, arith, get_or}
use Rattle.std.proofs.lemmas.List.{get_or_read}
use Rattle.bit_sets.proofs.Bits.{has_past}
use Rattle.bit_sets.proofs.Numbers.{no_word, next_in_word, none_by_summary, next_by_summary, word_there, word_not_zero}
use Rattle.bit_sets.proofs.sets.BitSet.next.Goals as goal

pub returns-then-first-len-clause-none : goal.returns-then-first-len-clause-none
returns-then-first-len-clause-none c = λ i h. rw (← c.self.view_is) (has_past c.self.inside.words.items i (omega arith))

pub returns-in-Some-clause-some : goal.returns-in-Some-clause-some
returns-in-Some-clause-some c =
    let read : c.index.result.now ≡ get_or c.self.inside.words.items (c.args.from / 64) 0 = get_or_read c.self.inside.words.items (c.args.from / 64) c.index.result.now (omega arith) c.index.ensures 0 in
    rw (← c.self.view_is) (next_in_word c.self.inside.words.items (c.args.from / 64) c.args.from (c.args.from % 64) c.in-Some.bit (rw read at c.in-Some.ensures.some) (omega arith) (λ i low high. absurd (omega arith)))

pub returns-in_err-at-clause-none : goal.returns-in_err-at-clause-none
returns-in_err-at-clause-none c =
    let read : c.index.result.now ≡ get_or c.self.inside.words.items (c.args.from / 64) 0 = get_or_read c.self.inside.words.items (c.args.from / 64) c.index.result.now (omega arith) c.index.ensures 0 in
    rw (c.from_residual.ensures, ← c.self.view_is) (none_by_summary c.self.inside.words.items c.self.inside.summary c.args.from c.self.invariant (rw read at c.in_default.ensures.none) c.in_err-at.ensures.none)

pub returns-in_err-bit-clause-none : goal.returns-in_err-bit-clause-none
returns-in_err-bit-clause-none c =
    let member = c.in_ok-at.ensures.some.member in
    let within = word_there c.self.inside.words.items c.self.inside.summary c.in_ok-at.at c.self.invariant member in
    let read : c.index-2.result.now ≡ get_or c.self.inside.words.items c.in_ok-at.at 0 = get_or_read c.self.inside.words.items c.in_ok-at.at c.index-2.result.now within c.index-2.ensures 0 in
    absurd (word_not_zero c.self.inside.words.items c.self.inside.summary c.in_ok-at.at c.self.invariant member (rw read at c.in_err-bit.ensures.none))

pub returns-clause-some : goal.returns-clause-some
returns-clause-some c =
    let within = word_there c.self.inside.words.items c.self.inside.summary c.in_ok-at.at c.self.invariant c.in_ok-at.ensures.some.member in
    let first : c.index.result.now ≡ get_or c.self.inside.words.items (c.args.from / 64) 0 = get_or_read c.self.inside.words.items (c.args.from / 64) c.index.result.now (omega arith) c.index.ensures 0 in
    let read : c.index-2.result.now ≡ get_or c.self.inside.words.items c.in_ok-at.at 0 = get_or_read c.self.inside.words.items c.in_ok-at.at c.index-2.result.now within c.index-2.ensures 0 in
    rw (← c.self.view_is) (next_by_summary c.self.inside.words.items c.self.inside.summary c.args.from c.in_ok-at.at c.in_ok-bit.bit c.self.invariant
    (rw first at c.in_default.ensures.none) c.in_ok-at.ensures.some (rw read at c.in_ok-bit.ensures.some))

pub next_word-requires-clause-past : goal.next_word-requires-clause-past
next_word-requires-clause-past c = λ w h. no_word c.self.inside.words.items c.self.inside.summary w c.self.invariant (let n = c.self.inside.words.ok.0 in omega (arith, h, n))
