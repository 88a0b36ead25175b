use Rattle.finding_rules.proofs.Barriers.{NoneBetween}
use Rattle.finding_rules.proofs.conflicts.is_after_barrier.Given as goal

abbrev pub invariant-loop-number : goal.invariant-loop-number
invariant-loop-number l = NoneBetween l.state.table l.row l.before l.number
