use Rattle.findings.proofs.Common.{◌≡◌, ◌++◌, take, Queued, QueuedKind, queued_kinds, queued_test, of_group}
use Rattle.findings.proofs.record.add_of_queued.Given as goal

abbrev pub invariant-loop-kind : goal.invariant-loop-kind
invariant-loop-kind l = l.found.items ≡ l.fn.found.items ++ of_group Queued (λ (kind : QueuedKind). queued_test kind l.before l.at.state.now.table l.number l.row) l.at.moment l.number (take l.kind-index queued_kinds)
