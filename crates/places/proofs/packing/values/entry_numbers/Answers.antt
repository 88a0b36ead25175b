use Rattle.std.proofs.Common.{rules, ◌≡◌, w32}
use Rattle.std.specs.Int.{cast_unsigned}
use Rattle.places.proofs.ValueLemmas.{entry_spells}
use Rattle.places.proofs.packing.values.entry_numbers.Goals as goal

pub returns : goal.returns
returns c =
    let e = c.args.entry in
    let h = c.halves_of-first.ensures in
    let a : c.cast_unsigned.result ≡ cast_unsigned w32 e.fd = search rules in
    let b : c.cast_unsigned-2.result ≡ cast_unsigned w32 e.splice_fd_in = search rules in
    rw (a, b, h.first, h.second) (entry_spells e (search rules) (search rules) h.bytes)
