use Rattle.stops.proofs.Landed.{forward_lands}
use Rattle.stops.proofs.landing.forward.Goals as goal

pub returns-clause-landing : goal.returns-clause-landing
returns-clause-landing c = (forward_lands c.args.marks.now c.args.watched c.above-breakpoint.result c.above-finding.result c.sooner-nearest.result c.args.at c.args.len c.landing_at.result c.requires c.above-breakpoint.ensures.least c.above-finding.ensures.least (cc) c.landing_at.ensures).0

pub returns-clause-first : goal.returns-clause-first
returns-clause-first c = (forward_lands c.args.marks.now c.args.watched c.above-breakpoint.result c.above-finding.result c.sooner-nearest.result c.args.at c.args.len c.landing_at.result c.requires c.above-breakpoint.ensures.least c.above-finding.ensures.least (cc) c.landing_at.ensures).1
