use Rattle.std.proofs.lemmas.Result.{err_from_is_err_and}
use Rattle.traces.specs.Cursors.{at_offset}
use Rattle.traces.specs.Reading.{program_at}
use Rattle.traces.proofs.Items.{items_continue, ends, is_done}
use Rattle.traces.proofs.programs.read_programs.Goals as goal

pub loop-preserved : goal.loop-preserved
loop-preserved c =
    rw c.in_ok-push.ensures.items
    (items_continue (λ before. program_at c.args.slots) c.args.count c.loop.counter c.loop.programs.items (at_offset c.args.bytes.now c.loop.at) c.in_ok-program.program (at_offset c.args.bytes.now c.in_ok-program.after) _ c.loop-test.true c.in_ok-program.ensures c.loop.invariant)

pub returns-in_err-program : goal.returns-in_err-program
returns-in_err-program c =
    let p = err_from_is_err_and c.from_residual.result c.from_residual.ensures.1 in
    rw (p.1, p.2)
    (ends (λ before. program_at c.args.slots) c.args.count c.loop.counter c.loop.programs.items (at_offset c.args.bytes.now c.loop.at) c.in_err-program.field-0.0 _ c.loop-test.true c.in_err-program.ensures c.loop.invariant)

pub returns : goal.returns
returns c = is_done (λ before. program_at c.args.slots) c.args.count c.loop.counter c.loop.programs.items (at_offset c.args.bytes.now c.loop.at) _ c.loop-test.false c.loop.invariant
