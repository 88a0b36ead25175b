use Rattle.machine.proofs.Refusals.{has_no_cause}
use Rattle.machine.proofs.laws.no_refusal_without_cause.Goals as goal

pub returns : goal.returns
returns c = has_no_cause
