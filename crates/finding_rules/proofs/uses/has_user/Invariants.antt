use Rattle.finding_rules.proofs.Common.{◌-◌, is_user}
use Rattle.finding_rules.proofs.Looking.{NonePasses}
use Rattle.finding_rules.proofs.uses.has_user.Given as goal

abbrev pub invariant-loop-number : goal.invariant-loop-number
invariant-loop-number l = NonePasses (is_user l.usage l.fd) l.state.table l.from

abbrev pub decreases-loop-number : goal.decreases-loop-number
decreases-loop-number l = 65536 - l.from
