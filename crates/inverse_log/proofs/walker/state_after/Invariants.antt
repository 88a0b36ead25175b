use Rattle.std.proofs.Common.{◌≡◌, take}
use Rattle.machine.specs.Runs.{run}
use Rattle.inverse_log.proofs.walker.state_after.Given as goal

abbrev pub invariant-loop-event : goal.invariant-loop-event
invariant-loop-event l = l.state ≡ run l.fn.state (take l.event-index l.events)
