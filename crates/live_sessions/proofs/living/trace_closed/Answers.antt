use Rattle.debug_server.proofs.Accepted.{all_accepted}
use Rattle.live_sessions.proofs.living.trace_closed.Goals as goal

pub write_trace2-requires-clause-starts : goal.write_trace2-requires-clause-starts
write_trace2-requires-clause-starts c = rw c.setup.ensures c.events-events.ensures.whole.starts

pub write_trace2-requires-clause-few : goal.write_trace2-requires-clause-few
write_trace2-requires-clause-few c = rw c.events-events.ensures.events c.events-events.ensures.whole.most

pub write_trace2-requires-clause-transfers : goal.write_trace2-requires-clause-transfers
write_trace2-requires-clause-transfers c = rw c.events-events.ensures.events (all_accepted _ _ c.events-events.ensures.whole.accepted)
