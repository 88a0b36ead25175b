use Rattle.findings.proofs.Common.{Queued, QueuedKind, queued_kinds, queued_test}
use Rattle.findings.proofs.Groups.{each_whole, group_more}
use Rattle.findings.proofs.record.add_of_queued.Goals as goal

pub loop-kind-preserved : goal.loop-kind-preserved
loop-kind-preserved c =
    group_more Queued (λ (kind : QueuedKind). queued_test kind c.args.before.now c.args.at.state.now.table c.args.number c.args.row.now) c.args.at.moment c.args.number queued_kinds c.loop-kind.kind-index _ c.queued_test-test.result _ c.loop-kind.found.items _ c.loop-kind-test.true c.queued_test-test.ensures c.loop-kind.invariant c.in_ok-add_if.ensures

pub returns : goal.returns
returns c = each_whole _ queued_kinds c.loop-kind.kind-index _ c.loop-kind.found.items c.loop-kind-test.false c.loop-kind.invariant
