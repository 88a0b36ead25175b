use Rattle.live_rules.proofs.OfferLemmas.{offer_own}
use Rattle.live_rules.proofs.laws.offers_own.Goals as goal

pub returns : goal.returns
returns c = offer_own
