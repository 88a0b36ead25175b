use Rattle.machine.proofs.EnterLemmas.{started_machine, started_ok}
use Rattle.machine.proofs.whole.Machine.start.Goals as goal

pub returns-clause-ok : goal.returns-clause-ok
returns-clause-ok c =
    let m = c.args.self.now in
    started_machine c.issue.result m c.issue.new.self _
    (started_ok c.issue.result m.table c.issue.new.self m.clock m.counted c.args.r c.row_ref-row.result.now c.held_by-held.result c.deadline_of-deadline.result c.base_of-base.result c.row_ref-row.ensures c.held_by-held.ensures c.deadline_of-deadline.ensures c.base_of-base.ensures c.issue.ensures.ok)
