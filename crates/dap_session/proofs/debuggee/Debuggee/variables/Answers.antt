-- If the container lists findings, the run was searched for them.
use Rattle.std.proofs.Common.{rules}
use Rattle.dap_session.proofs.Searching.{reports_before}
use Rattle.dap_session.proofs.debuggee.Debuggee.variables.Goals as goal

pub returns-clause-shown : goal.returns-clause-shown
returns-clause-shown c = record {
  container = c.in-Some.container;
  is_container = search rules;
  reports = c.reports-reports.result.now;
  are_listed = λ e. rw (← c.self.view_is) (reports_before _ _ _ c.in_ok-search_for.ensures.same (c.reports-reports.ensures.searched (c.in_ok-search_for.ensures.searched e)));
  variables = c.in_ok-found.found;
  is_page = search rules;
  is_body = search rules;
}
