use Rattle.opcodes.proofs.Common.{◌≡◌, refl, sym, ◌∙◌, ap, ◌+◌, ◌≤◌, arith, rules, Some, Pipe, stock_of, held_descriptor, Read, count_in}
use Rattle.opcodes.proofs.{Deciding.does, Deciding.pipe_read_within, Nothing.taken_nothing, Transferring.gives_out}
use Rattle.opcodes.proofs.results.read.Goals as goal

pub returns-in-Some-count-clause-effect : goal.returns-in-Some-count-clause-effect
returns-in-Some-count-clause-effect c res e f puts =
    let w = c.args.world.now in
    let row = c.args.row.now in
    let d = c.in-Some-Some.descriptor in
    let k = c.in-Some-count.count in
    let there : held_descriptor w row ≡ Some d = sym c.requires.held ∙ c.in-Some-Some.is-1 in
    let holds : stock_of w d.object ≡ Some (Pipe c.in-Some-Pipe.filled c.in-Some-Pipe.field-0-1) = sym c.in-Some-Pipe.ensures.value ∙ ap Some c.in-Some-Pipe.field-0-is in
    let within = pipe_read_within row.entry.len c.in-Some-Pipe.filled k c.has_writer.result c.args.choice (c.in-Some-count.ensures ∙ ap count_in c.pipe_read-outcome.ensures) in
    let memory : row.entry.addr + k ≤ 65536 = (let l = within.1 in let m = c.requires.within in omega (arith, l, m)) in
    does w row c.in-Some-Some.fd d Read (Pipe c.in-Some-Pipe.filled c.in-Some-Pipe.field-0-1) k _ res _ c.in-Some-Some.is-0 there c.requires.op holds c.in-Some-count.ensures e refl (gives_out w f d.object k c.in-Some-Pipe.filled c.in-Some-Pipe.field-0-1 holds within.0, memory)

pub returns-in-Some-eq0-count-clause-effect : goal.returns-in-Some-eq0-count-clause-effect
returns-in-Some-eq0-count-clause-effect c res e f puts =
    let w = c.args.world.now in
    let row = c.args.row.now in
    let d = c.in-Some-Some.descriptor in
    let there : held_descriptor w row ≡ Some d = sym c.requires.held ∙ c.in-Some-Some.is-1 in
    let counted : Some 0 ≡ count_in c.pipe_read-outcome.result = search rules in
    does w row c.in-Some-Some.fd d Read (Pipe c.in-Some-Pipe.filled c.in-Some-Pipe.field-0-1) 0 _ res _ c.in-Some-Some.is-0 there c.requires.op (sym c.in-Some-Pipe.ensures.value ∙ ap Some c.in-Some-Pipe.field-0-is) counted e (sym (taken_nothing d.object row.entry.addr w)) tt
