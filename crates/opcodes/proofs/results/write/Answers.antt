use Rattle.opcodes.proofs.Common.{◌≡◌, refl, sym, ◌∙◌, ap, ◌+◌, ◌≤◌, arith, rules, Some, File, Pipe, stock_of, held_descriptor, Write, count_in}
use Rattle.opcodes.proofs.{Deciding.descriptor_is, Deciding.does, Deciding.file_is, Deciding.pipe_written_within, Nothing.bytes_written_nothing, Nothing.put_nothing, Transferring.takes_in}
use Rattle.opcodes.proofs.results.write.Goals as goal

pub returns-in-Some-clause-effect : goal.returns-in-Some-clause-effect
returns-in-Some-clause-effect c res e f puts =
    let w = c.args.world.now in
    let row = c.args.row.now in
    let d = c.in-Some-Some.descriptor in
    let there : held_descriptor w row ≡ Some d = sym c.requires.held ∙ c.in-Some-Some.is-1 in
    let holds : stock_of w d.object ≡ Some (File c.in-Some-File.field-0-0) = sym c.in-Some-File.ensures.value ∙ ap Some c.in-Some-File.field-0-is in
    does w row c.in-Some-Some.fd d Write (File c.in-Some-File.field-0-0) c.in-Some.n _ res _ c.in-Some-Some.is-0 there c.requires.op holds c.in-Some.ensures e (c.transfer.ensures.written w)
    (c.transfer.ensures.can w f (descriptor_is w row c.in-Some-Some.fd d c.in-Some-Some.is-0 there) (file_is w d.object c.in-Some-File.field-0-0 holds))

pub returns-in-Some-eq0-clause-effect : goal.returns-in-Some-eq0-clause-effect
returns-in-Some-eq0-clause-effect c res e f puts =
    let w = c.args.world.now in
    let row = c.args.row.now in
    let d = c.in-Some-Some.descriptor in
    let there : held_descriptor w row ≡ Some d = sym c.requires.held ∙ c.in-Some-Some.is-1 in
    let counted : Some 0 ≡ count_in c.file_written-outcome.result = search rules in
    does w row c.in-Some-Some.fd d Write (File c.in-Some-File.field-0-0) 0 _ res _ c.in-Some-Some.is-0 there c.requires.op (sym c.in-Some-File.ensures.value ∙ ap Some c.in-Some-File.field-0-is) counted e (sym (bytes_written_nothing row.entry c.in-Some-Some.fd d w f (descriptor_is w row c.in-Some-Some.fd d c.in-Some-Some.is-0 there))) tt

pub returns-in-Some-count-clause-effect : goal.returns-in-Some-count-clause-effect
returns-in-Some-count-clause-effect c res e f puts =
    let w = c.args.world.now in
    let row = c.args.row.now in
    let d = c.in-Some-Some.descriptor in
    let k = c.in-Some-count.count in
    let there : held_descriptor w row ≡ Some d = sym c.requires.held ∙ c.in-Some-Some.is-1 in
    let holds : stock_of w d.object ≡ Some (Pipe c.in-Some-Pipe.filled c.in-Some-Pipe.capacity) = sym c.in-Some-Pipe.ensures.value ∙ ap Some c.in-Some-Pipe.field-0-is in
    let within = pipe_written_within row.entry.len c.in-Some-Pipe.filled c.in-Some-Pipe.capacity k c.has_reader-reader.result c.args.choice (c.in-Some-count.ensures ∙ ap count_in c.pipe_written-outcome.ensures) in
    let memory : row.entry.addr + k ≤ 65536 = (let l = within.1 in let m = c.requires.within in omega (arith, l, m)) in
    does w row c.in-Some-Some.fd d Write (Pipe c.in-Some-Pipe.filled c.in-Some-Pipe.capacity) k _ res _ c.in-Some-Some.is-0 there c.requires.op holds c.in-Some-count.ensures e refl (takes_in w f puts d.object k c.in-Some-Pipe.filled c.in-Some-Pipe.capacity holds within.0, memory)

pub returns-in-Some-eq0-count-clause-effect : goal.returns-in-Some-eq0-count-clause-effect
returns-in-Some-eq0-count-clause-effect c res e f puts =
    let w = c.args.world.now in
    let row = c.args.row.now in
    let d = c.in-Some-Some.descriptor in
    let there : held_descriptor w row ≡ Some d = sym c.requires.held ∙ c.in-Some-Some.is-1 in
    let counted : Some 0 ≡ count_in c.pipe_written-outcome.result = search rules in
    does w row c.in-Some-Some.fd d Write (Pipe c.in-Some-Pipe.filled c.in-Some-Pipe.capacity) 0 _ res _ c.in-Some-Some.is-0 there c.requires.op (sym c.in-Some-Pipe.ensures.value ∙ ap Some c.in-Some-Pipe.field-0-is) counted e (sym (put_nothing d.object row.entry.addr w)) tt
