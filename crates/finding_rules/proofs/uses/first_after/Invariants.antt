use Rattle.finding_rules.proofs.Common.{drop, sub_list, is_sought}
use Rattle.finding_rules.proofs.Looking.{NonePasses}
use Rattle.finding_rules.proofs.uses.first_after.Given as goal

abbrev pub invariant-loop-place : goal.invariant-loop-place
invariant-loop-place l = NonePasses (is_sought l.ring.slots l.sought) (drop l.passed (sub_list l.ring)) l.place
