use Rattle.debug_server.proofs.Stepping.{Ran}
use Rattle.debug_server.proofs.running.step_all.Given as goal

abbrev pub invariant-loop-i : goal.invariant-loop-i
invariant-loop-i l = Ran l.fn.state l.events l.i l.state
