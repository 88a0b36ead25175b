use Rattle.findings.proofs.Common.{Ended, EndedKind, ended_kinds, sym, ◌∙◌, ended_test, noted}
use Rattle.findings.proofs.{Groups.each_whole, Groups.group_more, Plain.ended_none}
use Rattle.findings.proofs.record.add_of_ended.Goals as goal

pub loop-kind-preserved : goal.loop-kind-preserved
loop-kind-preserved c =
    group_more Ended (λ (kind : EndedKind). ended_test kind (noted c.args.at.setup.now c.args.completed.now.severing.items c.args.completed.now.canceled.items c.args.at.before c.args.at.event c.args.at.state.now c.args.number c.args.row.now) c.args.before.now c.args.at.state.now.table c.args.number c.args.row.now) c.args.at.moment c.args.number ended_kinds c.loop-kind.kind-index _ c.ended_test-test.result _ c.loop-kind.found.items _ c.loop-kind-test.true c.ended_test-test.ensures c.loop-kind.invariant c.in_ok-add_if.ensures

pub returns-then-not-ends_notably : goal.returns-then-not-ends_notably
returns-then-not-ends_notably c =
    ended_none (noted c.args.at.setup.now c.args.completed.now.severing.items c.args.completed.now.canceled.items c.args.at.before c.args.at.event c.args.at.state.now c.args.number c.args.row.now) c.args.before.now c.args.at.state.now.table c.args.number c.args.row.now c.args.at.moment c.args.found.now.items (sym c.ends_notably.ensures ∙ c.if-not-ends_notably.true)

pub returns : goal.returns
returns c = each_whole _ ended_kinds c.loop-kind.kind-index _ c.loop-kind.found.items c.loop-kind-test.false c.loop-kind.invariant
