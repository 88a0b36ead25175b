use Rattle.finding_rules.proofs.Common.{◌-◌, ◌+◌, ◌≤◌}
use Rattle.finding_rules.proofs.Alike.{NoTwin}
use Rattle.finding_rules.proofs.twins.has_twin.Given as goal

abbrev pub invariant-loop-other : goal.invariant-loop-other
invariant-loop-other l = NoTwin l.state.table l.number l.row.entry.user_data l.from × (l.number ≤ l.from + 32)

abbrev pub decreases-loop-other : goal.decreases-loop-other
decreases-loop-other l = 65536 - l.from
