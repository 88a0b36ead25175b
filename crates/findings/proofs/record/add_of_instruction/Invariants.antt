use Rattle.findings.proofs.Common.{◌≡◌, ◌++◌, take, StepKind, step_kinds, is_of_step, of_group}
use Rattle.finding_kinds.specs.declared.kind.Kind.TheVariants.{Step}
use Rattle.findings.proofs.record.add_of_instruction.Given as goal

abbrev pub invariant-loop-kind : goal.invariant-loop-kind
invariant-loop-kind l = l.found.items ≡ l.fn.found.items ++ of_group Step (λ (kind : StepKind). is_of_step kind l.at.before.changes l.instruction l.at.state.now l.thread) l.at.moment l.thread (take l.kind-index step_kinds)
