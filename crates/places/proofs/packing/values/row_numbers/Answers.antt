use Rattle.std.proofs.Common.{rules, ◌≡◌, w32}
use Rattle.std.specs.Int.{cast_unsigned}
use Rattle.places.proofs.ValueLemmas.{row_spells, RowAgain}
use Rattle.places.proofs.packing.values.row_numbers.Goals as goal

pub returns : goal.returns
returns c =
    let r = c.args.row in
    let h = c.halves_of-first.ensures in
    let p = c.phase_number.ensures in
    let i = c.index_number.ensures in
    let t = c.index_number-2.ensures in
    let a : c.cast_unsigned.result ≡ cast_unsigned w32 r.entry.fd = search rules in
    let b : c.cast_unsigned-2.result ≡ cast_unsigned w32 r.entry.splice_fd_in = search rules in
    let g : RowAgain r = record {
      base = search rules;
      unit = search rules;
      target = rw (t.number) at t.again;
      held = rw (i.number) at i.again;
      phase = rw (p.number) at p.again;
    } in
    rw (p.number, a, b, h.first, h.second, i.number, c.in_ok-time.ensures, c.in_ok-deadline.ensures, t.number)
    (row_spells r g (search rules) (search rules) h.bytes)
