use Rattle.std.proofs.Common.{arith}
use Rattle.sampling.proofs.Ranking.{skipped}
use Rattle.sampling.proofs.Offering.{threads_idle}
use Rattle.sampling.proofs.Locking.{thread_count}
use Rattle.sampling.proofs.choosing.best_thread.Goals as goal

pub returns : goal.returns
returns c =
    let count = thread_count c.args.state.now c.args.program.now.threads c.requires.programs in
    let end = c.thread_count-thread-end.ensures.value in
    let few = c.thread_count-thread-end.ensures.few in
    let test = c.loop-thread-test.false in
    let within = c.loop-thread.auto.thread-end in
    skipped c.args.source.now c.args.state.now c.loop-thread.thread 16 c.loop-thread.best (omega (arith, few, within)) (threads_idle c.args.source.now c.args.state.now c.loop-thread.thread (omega (arith, count, end, test))) c.loop-thread.invariant
