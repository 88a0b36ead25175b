use Rattle.live_states.proofs.Rising.{all_differ}
use Rattle.live_states.proofs.laws.moments_differ.Goals as goal

pub returns : goal.returns
returns c = all_differ
