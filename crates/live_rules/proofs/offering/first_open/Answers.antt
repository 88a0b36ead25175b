use Rattle.live_rules.proofs.EndedRows.{below_both, below_queued, below_issued}
use Rattle.live_rules.proofs.offering.first_open.Goals as goal

pub returns-in-Some-Some : goal.returns-in-Some-Some
returns-in-Some-Some c = below_both c.args.state.now.table c.args.from c.in-Some-Some.queued c.in-Some-Some.issued c.min.result c.requires c.min.ensures c.in-Some-Some.ensures.some c.in-Some-Some.ensures'.some

pub returns-in-Some-None : goal.returns-in-Some-None
returns-in-Some-None c = below_queued c.args.state.now.table c.args.from c.in-Some-None.queued c.requires c.in-Some-None.ensures.some c.in-Some-None.ensures'.none

pub returns-in-None-Some : goal.returns-in-None-Some
returns-in-None-Some c = below_issued c.args.state.now.table c.args.from c.in-None-Some.issued c.requires (rw c.in-None-Some.is-0 at c.next_queued.ensures.none) c.in-None-Some.ensures.some
