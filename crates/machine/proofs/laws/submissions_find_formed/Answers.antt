use Rattle.machine.proofs.Formed.{formed_before}
use Rattle.machine.proofs.laws.submissions_find_formed.Goals as goal

pub returns : goal.returns
returns c = formed_before
