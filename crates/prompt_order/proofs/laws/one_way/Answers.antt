use Rattle.prompt_order.proofs.Dues.{one_way}
use Rattle.prompt_order.proofs.laws.one_way.Goals as goal

pub returns : goal.returns
returns c = one_way
