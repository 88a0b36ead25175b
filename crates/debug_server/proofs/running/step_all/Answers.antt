use Rattle.std.proofs.Common.{refl}
use Rattle.debug_server.proofs.Stepping.{ran_more, ran_stops}
use Rattle.debug_server.proofs.running.step_all.Goals as goal

pub returns-in-Err-clause-stops : goal.returns-in-Err-clause-stops
returns-in-Err-clause-stops c setup from =
    rw c.fault_by.ensures
    (ran_stops c.args.state.now c.loop-i.state c.args.events.now c.loop-i.i _ _ c.in-Err.refusal c.loop-i-test.true c.loop-i.invariant refl
    (λ k p. let q = c.in-Err.ensures.refused k p in cc) c.in-Err.ensures.only_memory setup from)

pub loop-i-preserved : goal.loop-i-preserved
loop-i-preserved c = ran_more c.args.state.now c.loop-i.state c.step.new.self c.args.events.now c.loop-i.i _ _ c.loop-i-test.true c.loop-i.invariant c.in_default.ensures.next refl
