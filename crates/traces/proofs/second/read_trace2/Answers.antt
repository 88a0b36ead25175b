use Rattle.traces.proofs.SecondForm.{only_answer2}
use Rattle.traces.proofs.second.read_trace2.Goals as goal

pub returns-clause-only : goal.returns-clause-only
returns-clause-only c = only_answer2 c.args.bytes.now c.read_second.result c.read_second.ensures.found c.read_second.ensures.fault
