use Rattle.findings.proofs.Common.{severs_chain, cancels_at}
use Rattle.findings.proofs.Passing.{all_members}
use Rattle.findings.proofs.completed.completed_by.Goals as goal

pub returns-clause-severing : goal.returns-clause-severing
returns-clause-severing c =
    all_members (severs_chain c.args.state.now.table) c.args.state.now.table _ _ _ _ _ _ _ c.parts-first.ensures.value c.pass_over.ensures c.unknown-completed.ensures.severing c.in_ok-add_changes.ensures.severing c.in_ok-add_changes-2.ensures.severing

pub returns-clause-canceled : goal.returns-clause-canceled
returns-clause-canceled c =
    all_members cancels_at c.args.state.now.table _ _ _ _ _ _ _ c.parts-first.ensures.value c.pass_over.ensures c.unknown-completed.ensures.canceled c.in_ok-add_changes.ensures.canceled c.in_ok-add_changes-2.ensures.canceled
