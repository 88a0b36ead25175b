use Rattle.live_rules.proofs.OfferLemmas.{expired_due}
use Rattle.live_rules.proofs.laws.due_rows_expired.Goals as goal

pub returns : goal.returns
returns c = expired_due
