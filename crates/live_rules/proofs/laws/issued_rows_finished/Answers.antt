use Rattle.live_rules.proofs.OfferLemmas.{finished_issued}
use Rattle.live_rules.proofs.laws.issued_rows_finished.Goals as goal

pub returns : goal.returns
returns c = finished_issued
