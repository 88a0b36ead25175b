use Rattle.std.proofs.Common.{rules, ◌≡◌, true, arith}
use Rattle.sampling.specs.Locks.{locks}
use Rattle.sampling.proofs.Locking.{locked, unlocked, thread_count}
use Rattle.sampling.proofs.locks.is_locked.Goals as goal

pub returns-then-locks : goal.returns-then-locks
returns-then-locks c =
    let count = thread_count c.args.state.now c.args.program.now.threads c.requires.programs in
    let end = c.thread_count-thread-end.ensures.value in
    let test = c.loop-thread-test.true in
    let here : locks c.args.state.now c.loop-thread.thread ≡ true = search rules in
    locked c.args.state.now c.loop-thread.thread (omega (arith, count, end, test)) here

pub returns : goal.returns
returns c =
    let count = thread_count c.args.state.now c.args.program.now.threads c.requires.programs in
    let end = c.thread_count-thread-end.ensures.value in
    let test = c.loop-thread-test.false in
    unlocked c.args.state.now c.loop-thread.thread (omega (arith, count, end, test)) c.loop-thread.invariant
