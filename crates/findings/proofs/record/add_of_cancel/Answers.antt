use Rattle.findings.proofs.Common.{Cancel, CancelKind, cancel_kinds, ◌++◌, sym, ap, ◌∙◌, is_of_cancel, of_cancel}
use Rattle.findings.proofs.Groups.{each_whole, group_more}
use Rattle.findings.proofs.record.add_of_cancel.Goals as goal

pub loop-kind-preserved : goal.loop-kind-preserved
loop-kind-preserved c =
    group_more Cancel (λ (kind : CancelKind). is_of_cancel kind c.in-Some.done c.args.state.now.table) c.args.moment c.in-Some.done.number cancel_kinds c.loop-kind.kind-index _ c.is_of_cancel-test.result _ c.loop-kind.found.items _ c.loop-kind-test.true c.is_of_cancel-test.ensures c.loop-kind.invariant c.in_ok-add_if.ensures

pub returns : goal.returns
returns c =
    each_whole _ cancel_kinds c.loop-kind.kind-index _ c.loop-kind.found.items c.loop-kind-test.false c.loop-kind.invariant
    ∙ ap (λ x. c.args.found.now.items ++ of_cancel c.args.moment x c.args.state.now.table) (sym c.in-Some.is)
