use Rattle.std.proofs.Common.{rules, ◌≡◌, w64}
use Rattle.std.specs.Int.{cast_unsigned}
use Rattle.places.proofs.ValueLemmas.{signed_spells}
use Rattle.places.proofs.packing.values.signed_numbers.Goals as goal

pub returns : goal.returns
returns c =
    let a : c.cast_unsigned.result ≡ cast_unsigned w64 c.args.number = search rules in
    rw a (signed_spells c.args.number (search rules))
