use Rattle.std.proofs.Common.{arith}
use Rattle.debug_server.proofs.Stepping.{stops_at, stops_as}
use Rattle.debug_server.proofs.running.run_schedule.Goals as goal

pub run_from-requires-clause-starts : goal.run_from-requires-clause-starts
run_from-requires-clause-starts c = rw c.setup.ensures.value c.setup.ensures.kept.setup

pub run_from-requires-clause-most : goal.run_from-requires-clause-most
run_from-requires-clause-most c = rw c.schedule.ensures.value (omega (arith, c.schedule.ensures.kept.events))

pub returns-clause-accepts : goal.returns-clause-accepts
returns-clause-accepts c = rw (← c.setup.ensures.value, ← c.schedule.ensures.value) c.run_from.ensures.accepts

pub returns-clause-schedule : goal.returns-clause-schedule
returns-clause-schedule c = rw (← c.setup.ensures.value, ← c.schedule.ensures.value) (stops_at _ _ c.run_from.result c.run_from.ensures.stops)

pub returns-clause-other : goal.returns-clause-other
returns-clause-other c = stops_as _ _ c.run_from.result c.run_from.ensures.stops
