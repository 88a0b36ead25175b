use Rattle.live_states.proofs.Rising.{all_rise}
use Rattle.live_states.proofs.laws.moments_rise.Goals as goal

pub returns : goal.returns
returns c = all_rise
