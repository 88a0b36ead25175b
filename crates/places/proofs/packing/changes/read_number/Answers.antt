use Rattle.std.proofs.Common.{◌≡◌, ◌/◌, arith}
use Rattle.places.proofs.HeadLemmas.{number_read}
use Rattle.places.proofs.packing.changes.read_number.Goals as goal

pub returns : goal.returns
returns c =
    let one : c.first-head.result / 30 ≡ 1 = let h = c.if-head-ne-NUMBER.false in omega arith in
    number_read _ _ _ _ _ _ _ _ c.first-head.ensures one c.number-head.ensures.left c.word-index.ensures.value c.word-index.ensures.left c.number-number.ensures.value c.number-number.ensures.left c.place_of.ensures
