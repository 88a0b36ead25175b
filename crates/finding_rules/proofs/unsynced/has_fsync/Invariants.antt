use Rattle.finding_rules.proofs.Common.{syncs}
use Rattle.finding_rules.proofs.Looking.{NonePasses}
use Rattle.finding_rules.proofs.unsynced.has_fsync.Given as goal

abbrev pub invariant-loop-number : goal.invariant-loop-number
invariant-loop-number l = NonePasses (syncs l.setup l.object) l.state.table l.number
