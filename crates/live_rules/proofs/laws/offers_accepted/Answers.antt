use Rattle.live_rules.proofs.OfferLemmas.{offer_accepted}
use Rattle.live_rules.proofs.laws.offers_accepted.Goals as goal

pub returns : goal.returns
returns c = offer_accepted
