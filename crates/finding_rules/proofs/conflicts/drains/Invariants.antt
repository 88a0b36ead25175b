use Rattle.finding_rules.proofs.Draining.{NoneDrains}
use Rattle.finding_rules.proofs.conflicts.drains.Given as goal

abbrev pub invariant-loop-number : goal.invariant-loop-number
invariant-loop-number l = NoneDrains l.state.table l.unit l.number
