use Rattle.findings.proofs.Common.{Conflict, ConflictKind, conflict_kinds, [], ◌++◌, ap, ◌∙◌, option_map_or, conflicts, of_candidate}
use Rattle.findings.proofs.Groups.{each_whole, group_more}
use Rattle.findings.proofs.record.add_of_number.Goals as goal

pub loop-kind-preserved : goal.loop-kind-preserved
loop-kind-preserved c =
    group_more Conflict (λ (kind : ConflictKind). conflicts kind c.args.at.setup.now c.args.at.state.now c.args.effect.now c.args.number c.in-Some.row) c.args.at.moment c.args.number conflict_kinds c.loop-kind.kind-index _ c.conflicts-test.result _ c.loop-kind.found.items _ c.loop-kind-test.true c.conflicts-test.ensures c.loop-kind.invariant c.in_ok-add_if.ensures

pub returns : goal.returns
returns c =
    each_whole _ conflict_kinds c.loop-kind.kind-index _ c.loop-kind.found.items c.loop-kind-test.false c.loop-kind.invariant
    ∙ ap (λ row. c.args.found.now.items ++ option_map_or (of_candidate c.args.at.moment c.args.at.setup.now c.args.at.state.now c.args.effect.now c.args.number) row []) c.in-Some.ensures.row
