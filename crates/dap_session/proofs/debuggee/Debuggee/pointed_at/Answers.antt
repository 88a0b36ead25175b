-- The instruction is the subject of the report that was found.
use Rattle.dap_session.proofs.Searching.{pointed_by}
use Rattle.dap_session.proofs.debuggee.Debuggee.pointed_at.Goals as goal

pub returns-clause-points : goal.returns-clause-points
returns-clause-points c = pointed_by _ _ _ _ c.in_ok-report_at.ensures c.instruction.ensures
