use Rattle.traces.proofs.SecondForm.{transfers}
use Rattle.traces.proofs.second.migrate.Goals as goal

pub write_trace2-requires-clause-transfers : goal.write_trace2-requires-clause-transfers
write_trace2-requires-clause-transfers c = rw c.deref.ensures.value (transfers c.in_ok-events.events.items c.in_ok-events.ensures.found.0.1)
