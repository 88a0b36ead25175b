use Rattle.live_rules.proofs.OfferLemmas.{issued_eligible}
use Rattle.live_rules.proofs.laws.eligible_rows_issued.Goals as goal

pub returns : goal.returns
returns c = issued_eligible
