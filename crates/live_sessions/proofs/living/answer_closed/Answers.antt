use Rattle.debug_server.proofs.Accepted.{answering}
use Rattle.live_sessions.proofs.living.answer_closed.Goals as goal

pub walk_events-requires-clause-starts : goal.walk_events-requires-clause-starts
walk_events-requires-clause-starts g c = rw c.setup.ensures c.events.ensures.whole.starts

pub walk_events-requires-clause-most : goal.walk_events-requires-clause-most
walk_events-requires-clause-most g c = rw c.events.ensures.events c.events.ensures.whole.most

pub returns-clause-ok : goal.returns-clause-ok
returns-clause-ok g c = rw (← c.setup.ensures, ← c.events.ensures.events) c.walk_events.ensures.ok

pub returns-clause-begins : goal.returns-clause-begins
returns-clause-begins g c = rw (← c.setup.ensures, ← c.events.ensures.events) c.walk_events.ensures.begins

pub returns-clause-other : goal.returns-clause-other
returns-clause-other g c =
    answering _ _ _ c.walk_events.result (rw (c.setup.ensures, c.events.ensures.events) c.events.ensures.whole.accepted) c.walk_events.ensures.schedule c.walk_events.ensures.other
