use Rattle.machine.proofs.Common.{◌≡◌, ◌∙◌, ℕ, List, refl, ap, subst, Some, slice_get, slice_get_read, HasWidths, thread_start, Instruction}
use Rattle.machine.proofs.StartLemmas.{below_on, all_below, mapped_on}
use Rattle.machine.proofs.starting.start_threads.Goals as goal

HaveWidth : List Instruction → Type 0
HaveWidth p = (i : ℕ) (x : Instruction) → slice_get p i ≡ Some x → HasWidths x

pub loop-program-preserved : goal.loop-program-preserved
unfolding HaveWidth
loop-program-preserved c =
    let widths : HaveWidth c.program-item.result = subst HaveWidth c.as_slice.ensures c.in_ok-start_thread.ensures.widths in
    let at = slice_get_read c.args.programs.now _ c.loop-program.program-index _ refl c.loop-program-test.true c.program-item.is in
    (mapped_on thread_start c.args.programs.now _ _ c.loop-program.program-index _ _ c.loop-program.invariant.0 c.in_ok-push.ensures.items (c.in_ok-start_thread.ensures.start ∙ ap thread_start c.as_slice.ensures) at, below_on HaveWidth c.args.programs.now c.loop-program.program-index _ at widths c.loop-program.invariant.1)

pub returns-clause-widths : goal.returns-clause-widths
unfolding HaveWidth
returns-clause-widths c = all_below HaveWidth c.args.programs.now c.loop-program.program-index c.loop-program-test.false c.loop-program.invariant.1
