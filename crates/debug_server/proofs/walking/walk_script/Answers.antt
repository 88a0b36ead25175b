use Rattle.std.proofs.Common.{arith}
use Rattle.debug_server.proofs.Faulting.{walks, reads_none}
use Rattle.debug_server.proofs.walking.walk_script.Goals as goal

pub walk_events-requires-clause-starts : goal.walk_events-requires-clause-starts
walk_events-requires-clause-starts g c = rw c.setup.ensures.value c.setup.ensures.kept.setup

pub walk_events-requires-clause-most : goal.walk_events-requires-clause-most
walk_events-requires-clause-most g c = rw c.schedule.ensures.value (omega (arith, c.schedule.ensures.kept.events))

pub returns-clause-ok : goal.returns-clause-ok
returns-clause-ok g c = rw (← c.setup.ensures.value, ← c.schedule.ensures.value) c.walk_events.ensures.ok

pub returns-clause-script : goal.returns-clause-script
returns-clause-script g c = reads_none c.walk_events.result c.walk_events.ensures.other

pub returns-clause-schedule : goal.returns-clause-schedule
returns-clause-schedule g c = rw (← c.setup.ensures.value, ← c.schedule.ensures.value) c.walk_events.ensures.schedule

pub returns-clause-begins : goal.returns-clause-begins
returns-clause-begins g c = rw (← c.setup.ensures.value, ← c.schedule.ensures.value) c.walk_events.ensures.begins

pub returns-clause-other : goal.returns-clause-other
returns-clause-other g c = walks c.walk_events.result c.walk_events.ensures.other
