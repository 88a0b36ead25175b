use Rattle.std.proofs.Common.{rules, ◌≡◌, w32}
use Rattle.std.specs.Int.{cast_unsigned}
use Rattle.places.proofs.ValueLemmas.{nothing_spells, reaped_spells}
use Rattle.places.proofs.packing.values.reaped_numbers.Goals as goal

pub returns-in-None : goal.returns-in-None
returns-in-None c = rw (c.in-None.is) nothing_spells

pub returns-in-Some : goal.returns-in-Some
returns-in-Some c =
    let x = c.in-Some.completion in
    let a : c.cast_unsigned.result ≡ cast_unsigned w32 x.res = search rules in
    rw (c.in-Some.is, a) (reaped_spells x (search rules))
