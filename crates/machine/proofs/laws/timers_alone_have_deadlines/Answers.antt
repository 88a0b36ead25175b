use Rattle.std.proofs.Common.{◌∙◌}
use Rattle.machine.proofs.FormedRows.{deadline_timed, unfinished_issued}
use Rattle.machine.proofs.laws.timers_alone_have_deadlines.Goals as goal

pub returns-clause-noted : goal.returns-clause-noted
returns-clause-noted c = λ m r row f e u. deadline_timed m.clock row ∙ (f.rows r row e).timed u

pub returns-clause-kept : goal.returns-clause-kept
returns-clause-kept c = λ m r row f e i. let x = f.rows r row e in x.due i ∙ x.timed (unfinished_issued row.phase i)
