use Rattle.live_states.proofs.Rising.{all_redeem}
use Rattle.live_states.proofs.laws.receipts_redeem.Goals as goal

pub returns : goal.returns
returns c = all_redeem
