use Rattle.stops.proofs.Landed.{backward_lands}
use Rattle.stops.proofs.landing.backward.Goals as goal

pub returns-clause-landing : goal.returns-clause-landing
returns-clause-landing c = (backward_lands c.args.marks.now c.args.watched c.below-breakpoint.result c.below-finding.result c.later-nearest.result c.args.at c.landing_at.result c.requires c.below-breakpoint.ensures.greatest c.below-finding.ensures.greatest (cc) c.landing_at.ensures).0

pub returns-clause-last : goal.returns-clause-last
returns-clause-last c = (backward_lands c.args.marks.now c.args.watched c.below-breakpoint.result c.below-finding.result c.later-nearest.result c.args.at c.landing_at.result c.requires c.below-breakpoint.ensures.greatest c.below-finding.ensures.greatest (cc) c.landing_at.ensures).1
