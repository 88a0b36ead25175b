use Rattle.live_rules.proofs.OfferLemmas.{least_offered}
use Rattle.live_rules.proofs.laws.least_rows_offered.Goals as goal

pub returns : goal.returns
returns c = least_offered
