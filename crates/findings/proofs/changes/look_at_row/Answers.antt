use Rattle.findings.proofs.Noted.{row_added}
use Rattle.findings.proofs.changes.look_at_row.Goals as goal

pub returns-clause-added : goal.returns-clause-added
returns-clause-added c =
    let at = c.args.at in
    row_added c.add_of_row.result at.setup.now at.past.now at.before at.event at.state.now c.prepare.new.completed at.moment c.args.old c.row_in-before.result c.args.number _ _ _ c.in_ok-prepare.ensures.listed c.in_ok-prepare.ensures.known c.row_in-before.ensures c.in-Some.ensures.row c.add_of_row.ensures
