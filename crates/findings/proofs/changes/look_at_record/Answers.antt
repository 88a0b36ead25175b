use Rattle.findings.proofs.Common.{view, noted_by}
use Rattle.findings.proofs.Passing.{all_followed, all_shown}
use Rattle.findings.proofs.changes.look_at_record.Goals as goal

pub returns-clause-added : goal.returns-clause-added
returns-clause-added c =
    all_shown c.look_at_changes-2.result c.args.at.moment (noted_by c.args.at.setup.now c.args.at.past.now c.args.at.before c.args.at.event c.args.at.state.now) c.args.at.state.now.table _ _ _ _ _ _ _ c.parts-first.ensures.value c.pass_over.ensures c.in_ok-look_at_changes.ensures.added c.look_at_changes-2.ensures.added

pub returns-clause-further : goal.returns-clause-further
returns-clause-further c =
    all_followed c.look_at_changes-2.result (view c.args.at.state.now) _ _ _ _ _ _ _ c.parts-first.ensures.value c.pass_over.ensures c.in_ok-look_at_changes.ensures.further c.look_at_changes-2.ensures.further
