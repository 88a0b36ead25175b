use Rattle.traces.proofs.Alike.{no_fault}
use Rattle.traces.proofs.SecondForm.{no_fault2}
use Rattle.traces.proofs.laws.no_fault_of_a_trace.Goals as goal

pub returns-clause-first : goal.returns-clause-first
returns-clause-first c = no_fault

pub returns-clause-second : goal.returns-clause-second
returns-clause-second c = no_fault2
