use Rattle.traces.proofs.Alike.{faults_alike, faults2_alike}
use Rattle.traces.proofs.laws.one_fault_of_bytes.Goals as goal

pub returns-clause-first : goal.returns-clause-first
returns-clause-first c = faults_alike

pub returns-clause-second : goal.returns-clause-second
returns-clause-second c = faults2_alike
