-- Answered here, so that a wrong body fails at once.
use Rattle.std.proofs.Common.{rules}
use Rattle.finding_rules.proofs.verdicts.judged_kind.Goals as goal

pub returns-in-Conflict-FsyncEarly : goal.returns-in-Conflict-FsyncEarly
returns-in-Conflict-FsyncEarly c = search rules
