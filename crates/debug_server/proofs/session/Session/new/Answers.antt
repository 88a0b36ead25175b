use Rattle.std.proofs.Common.{arith}
use Rattle.debug_server.proofs.session.Session.new.Goals as goal

pub session_of-requires-clause-starts : goal.session_of-requires-clause-starts
session_of-requires-clause-starts c = rw c.setup.ensures.value c.setup.ensures.kept.setup

pub session_of-requires-clause-most : goal.session_of-requires-clause-most
session_of-requires-clause-most c = rw c.schedule.ensures.value (omega (arith, c.schedule.ensures.kept.events))

pub returns-clause-ok : goal.returns-clause-ok
returns-clause-ok c = rw (← c.setup.ensures.value, ← c.schedule.ensures.value) c.session_of.ensures.ok

pub returns-clause-accepts : goal.returns-clause-accepts
returns-clause-accepts c = rw (← c.setup.ensures.value, ← c.schedule.ensures.value) c.session_of.ensures.accepts

pub returns-clause-schedule : goal.returns-clause-schedule
returns-clause-schedule c = rw (← c.setup.ensures.value, ← c.schedule.ensures.value) c.session_of.ensures.schedule
