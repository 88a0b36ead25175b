use Rattle.findings.proofs.Common.{◌≡◌, ◌++◌, take, Conflict, ConflictKind, conflict_kinds, conflicts, of_group}
use Rattle.findings.proofs.record.add_of_number.Given as goal

abbrev pub invariant-loop-kind : goal.invariant-loop-kind
invariant-loop-kind l = l.found.items ≡ l.fn.found.items ++ of_group Conflict (λ (kind : ConflictKind). conflicts kind l.at.setup.now l.at.state.now l.effect l.number l.row) l.at.moment l.number (take l.kind-index conflict_kinds)
