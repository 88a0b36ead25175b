use Rattle.machine.proofs.PuttingBack.{same_machine}
use Rattle.machine.proofs.laws.shown_alike.Goals as goal

pub returns : goal.returns
returns c = same_machine
