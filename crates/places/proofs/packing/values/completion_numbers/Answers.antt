use Rattle.std.proofs.Common.{rules, ◌≡◌, w32}
use Rattle.std.specs.Int.{cast_unsigned}
use Rattle.places.proofs.ValueLemmas.{completion_spells}
use Rattle.places.proofs.packing.values.completion_numbers.Goals as goal

pub returns : goal.returns
returns c =
    let a : c.cast_unsigned.result ≡ cast_unsigned w32 c.args.completion.res = search rules in
    rw a (completion_spells c.args.completion (search rules))
