use Rattle.prompt_order.proofs.Dues.{goes_on}
use Rattle.prompt_order.proofs.laws.goes_on.Goals as goal

pub returns : goal.returns
returns c = goes_on
