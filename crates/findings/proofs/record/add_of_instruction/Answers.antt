use Rattle.findings.proofs.Common.{StepKind, step_kinds, is_of_step}
use Rattle.finding_kinds.specs.declared.kind.Kind.TheVariants.{Step}
use Rattle.findings.proofs.Groups.{each_whole, group_more}
use Rattle.findings.proofs.record.add_of_instruction.Goals as goal

pub loop-kind-preserved : goal.loop-kind-preserved
loop-kind-preserved c =
    group_more Step (λ (kind : StepKind). is_of_step kind c.args.at.before.changes c.args.instruction.now c.args.at.state.now c.args.thread) c.args.at.moment c.args.thread step_kinds c.loop-kind.kind-index _ c.is_of_step-test.result _ c.loop-kind.found.items _ c.loop-kind-test.true c.is_of_step-test.ensures c.loop-kind.invariant c.in_ok-add_if.ensures

pub returns : goal.returns
returns c = each_whole _ step_kinds c.loop-kind.kind-index _ c.loop-kind.found.items c.loop-kind-test.false c.loop-kind.invariant
