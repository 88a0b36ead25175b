-- The run was searched, and its findings are those of the run before that.
use Rattle.std.proofs.Common.{arith, rules}
use Rattle.std.proofs.lemmas.Bool.Decides.{nat_tests}
use Rattle.dap_session.proofs.Searching.{reports_before}
use Rattle.dap_session.proofs.debuggee.Debuggee.set_exceptions.Goals as goal

pub returns-clause-stops : goal.returns-clause-stops
returns-clause-stops c =
    let searched = c.reports-reports.ensures.searched c.in_ok-search.ensures.searched in
    rw (← c.self.view_is) (
      search rules,
      record {
        none = λ e. absurd (let none : ⊥ = grind (arith, nat_tests) in none);
        some = λ _. (c.reports-reports.result.now, reports_before _ _ _ c.in_ok-search.ensures.same searched, rw c.as_slice.ensures at c.in_ok-moments.ensures);
      },
    )
