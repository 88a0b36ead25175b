use Rattle.findings.proofs.Common.{◌≡◌, ◌++◌, take, Ended, EndedKind, ended_kinds, ended_test, noted, of_group}
use Rattle.findings.proofs.record.add_of_ended.Given as goal

abbrev pub invariant-loop-kind : goal.invariant-loop-kind
invariant-loop-kind l = l.found.items ≡ l.fn.found.items ++ of_group Ended (λ (kind : EndedKind). ended_test kind (noted l.at.setup.now l.completed.severing.items l.completed.canceled.items l.at.before l.at.event l.at.state.now l.number l.row) l.before l.at.state.now.table l.number l.row) l.at.moment l.number (take l.kind-index ended_kinds)
