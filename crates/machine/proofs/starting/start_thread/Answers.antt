use Rattle.machine.proofs.Common.{refl, slice_get_read, HasWidths}
use Rattle.machine.proofs.StartLemmas.{below_on, all_below, copied_on}
use Rattle.machine.proofs.starting.start_thread.Goals as goal

pub loop-instruction-preserved : goal.loop-instruction-preserved
loop-instruction-preserved c =
    let at = slice_get_read c.args.program.now _ c.loop-instruction.instruction-index _ refl c.loop-instruction-test.true c.instruction-item.is in
    (copied_on c.args.program.now _ _ c.loop-instruction.instruction-index _ _ c.loop-instruction.invariant.0 c.in_ok-push.ensures.items c.in_ok-copy.ensures.same at, below_on HasWidths c.args.program.now c.loop-instruction.instruction-index _ at c.copy.ensures.widths c.loop-instruction.invariant.1)

pub returns-clause-widths : goal.returns-clause-widths
returns-clause-widths c = all_below HasWidths c.args.program.now c.loop-instruction.instruction-index c.loop-instruction-test.false c.loop-instruction.invariant.1
