use Rattle.finding_rules.proofs.Common.{slice_get_past}
use Rattle.finding_rules.proofs.Between.{byte_in_none}
use Rattle.finding_rules.proofs.verdicts.has_byte.Goals as goal

pub returns-in-None : goal.returns-in-None
returns-in-None c =
    byte_in_none c.args.sets.now c.args.written.now (slice_get_past c.args.sets.now c.args.written.now.file c.in-None.ensures.lookup.3)
