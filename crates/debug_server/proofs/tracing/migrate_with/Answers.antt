use Rattle.traces.proofs.SecondForm.{transfers}
use Rattle.debug_server.proofs.tracing.migrate_with.Goals as goal

pub whole_of-requires-clause-transfers : goal.whole_of-requires-clause-transfers
whole_of-requires-clause-transfers c = rw c.deref.ensures.value (transfers c.in-Ok.events.items c.in-Ok.ensures.found.0.1)
