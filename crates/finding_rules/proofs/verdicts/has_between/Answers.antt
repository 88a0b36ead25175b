use Rattle.finding_rules.proofs.Common.{sym}
use Rattle.finding_rules.proofs.Between.{between_is, between_none}
use Rattle.finding_rules.proofs.verdicts.has_between.Goals as goal

pub returns-in-Some : goal.returns-in-Some
returns-in-Some c = between_is c.args.bytes.now c.args.first c.args.count c.in-Some.byte c.in-Some.ensures.some

pub returns-in-None : goal.returns-in-None
returns-in-None c = sym (between_none c.args.bytes.now c.args.first c.args.count c.in-None.ensures.none)
