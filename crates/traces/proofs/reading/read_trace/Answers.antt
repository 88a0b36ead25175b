use Rattle.traces.proofs.Traces.{only_answer}
use Rattle.traces.proofs.reading.read_trace.Goals as goal

pub returns-clause-only : goal.returns-clause-only
returns-clause-only c = only_answer c.args.bytes.now c.read_first.result c.read_first.ensures.found c.read_first.ensures.fault
