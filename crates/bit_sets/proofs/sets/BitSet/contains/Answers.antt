use Rattle.std.proofs.Common.{◌≡◌, ◌/◌, ◌%◌, ◌∙◌, get_or, sym, arith}
use Rattle.std.proofs.lemmas.Bool.{ltb-true}
use Rattle.std.proofs.lemmas.List.{get_or_read}
use Rattle.bit_sets.proofs.Bits.{tested_bit, has_is, has_past}
use Rattle.bit_sets.proofs.sets.BitSet.contains.Goals as goal

pub returns-in-Some : goal.returns-in-Some
returns-in-Some c =
    let found = rw c.deref.ensures.value at c.in-Some.ensures.lookup in
    let read : c.in-Some.word.now ≡ get_or c.self.inside.words.items (c.args.k / 64) 0 = get_or_read c.self.inside.words.items (c.args.k / 64) c.in-Some.word.now (ltb-true _ _ (sym found.0)) found.1 0 in
    rw (← c.self.view_is, read) (tested_bit (get_or c.self.inside.words.items (c.args.k / 64) 0) (c.args.k % 64) (omega arith) ∙ has_is c.self.inside.words.items c.args.k)

pub returns-in-None : goal.returns-in-None
returns-in-None c =
    let past = rw c.deref.ensures.value at c.in-None.ensures.lookup.3 in
    rw (← c.self.view_is) (sym (has_past c.self.inside.words.items c.args.k (omega arith)))
