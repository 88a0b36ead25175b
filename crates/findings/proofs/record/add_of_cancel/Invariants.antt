use Rattle.findings.proofs.Common.{◌≡◌, ◌++◌, take, Cancel, CancelKind, cancel_kinds, is_of_cancel, of_group}
use Rattle.findings.proofs.record.add_of_cancel.Given as goal

abbrev pub invariant-loop-kind : goal.invariant-loop-kind
invariant-loop-kind l = l.found.items ≡ l.fn.found.items ++ of_group Cancel (λ (kind : CancelKind). is_of_cancel kind l.done l.state.table) l.moment l.done.number (take l.kind-index cancel_kinds)
