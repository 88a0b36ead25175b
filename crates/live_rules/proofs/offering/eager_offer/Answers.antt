use Rattle.live_rules.proofs.EndedRows.{below_none}
use Rattle.live_rules.proofs.offering.eager_offer.Goals as goal

pub works-requires : goal.works-requires
works-requires c = record { ended = below_none c.args.state.now.table }
