use Rattle.debug_server.proofs.tracing.whole_of.Goals as goal

pub write_trace2-requires-clause-starts : goal.write_trace2-requires-clause-starts
write_trace2-requires-clause-starts c = rw c.setup.ensures.value c.setup.ensures.kept.setup

pub returns : goal.returns
returns c = rw (← c.setup.ensures.value) c.write_trace2.ensures
