use Rattle.live_rules.proofs.OfferLemmas.{deadline_least}
use Rattle.live_rules.proofs.laws.least_deadline_offered.Goals as goal

pub returns : goal.returns
returns c = deadline_least
