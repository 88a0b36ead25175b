use Rattle.std.proofs.Common.{◌≡◌, ◌<◌, ◌^◌, ap, ◌∙◌, pos, sym, replicate, to_z, of_z, w32, arith, rules}
use Rattle.source_map.specs.PutTexts.{natural_in}
use Rattle.source_map.proofs.PutTexts.{is_natural, numbers_there}
use Rattle.source_map.proofs.puts.numbers_of.Goals as goal

pub returns : goal.returns
returns c =
    let e = c.args.entry.now in
    let a : e.opcode < 2 ^ 8 = search rules in
    let b : e.flags < 2 ^ 8 = search rules in
    let d : e.ioprio < 2 ^ 16 = search rules in
    let h : e.len < 2 ^ 32 = search rules in
    let i : e.operation_flags < 2 ^ 32 = search rules in
    let made : c.natural.result ≡ natural_in e.fd = search rules in
    let fd : pos c.from-4.result ≡ e.fd = ap pos c.from-4.ensures ∙ is_natural e.fd c.in-Some.fd (sym made ∙ c.in-Some.is) in
    let small : c.from-4.result < 2 ^ 31 = omega (arith, c.in-Some.ensures.small, c.from-4.ensures) in
    let kept : to_z w32 (of_z w32 e.fd) ≡ e.fd = search rules in
    let plain : e ≡ record e { buf_index = 0; personality = 0; splice_fd_in = pos 0; rest = replicate 16 0 } = c.equals.ensures.0 c.if-not-equals.false ∙ ap (λ z. record e { fd = z; buf_index = 0; personality = 0; splice_fd_in = pos 0; rest = replicate 16 0 }) kept in
    numbers_there e c.from.result c.from-2.result c.from-3.result c.from-4.result c.from-5.result c.from-6.result c.from.ensures c.from-2.ensures c.from-3.ensures fd c.from-5.ensures c.from-6.ensures a b d small h i plain
