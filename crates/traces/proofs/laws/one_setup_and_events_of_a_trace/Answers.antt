use Rattle.traces.proofs.SecondForm.{same_trace2}
use Rattle.traces.proofs.laws.one_setup_and_events_of_a_trace.Goals as goal

pub returns : goal.returns
returns c = same_trace2
