use Rattle.std.proofs.Common.{◌≡◌, ◌/◌, ap, not, get_or, sym, arith}
use Rattle.std.proofs.lemmas.Bool.{ltb-true}
use Rattle.std.proofs.lemmas.List.{get_or_read}
use Rattle.bit_sets.proofs.Bits.{lacks_bit, has_past}
use Rattle.places.proofs.notes.marks.is_kept.Goals as goal

pub returns-in-Some : goal.returns-in-Some
returns-in-Some c =
    let found = c.in-Some.ensures.lookup in
    let read : c.in-Some.word.now ≡ get_or c.args.gone.now (c.args.i / 64) 0 = get_or_read c.args.gone.now (c.args.i / 64) c.in-Some.word.now (ltb-true _ _ (sym found.0)) found.1 0 in
    rw (read) (lacks_bit c.args.gone.now c.args.i)

pub returns-in-None : goal.returns-in-None
returns-in-None c = let past = c.in-None.ensures.lookup.3 in ap not (sym (has_past c.args.gone.now c.args.i (omega arith)))
