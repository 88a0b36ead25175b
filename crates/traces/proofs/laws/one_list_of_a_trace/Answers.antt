use Rattle.traces.proofs.Traces.{same_trace}
use Rattle.traces.proofs.laws.one_list_of_a_trace.Goals as goal

pub returns : goal.returns
returns c = same_trace
