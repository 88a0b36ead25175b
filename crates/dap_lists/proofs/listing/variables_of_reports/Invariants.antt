use Rattle.std.proofs.Common.{◌≡◌, map, take}
use Rattle.dap_lists.specs.Listed.{report_variable}
use Rattle.dap_lists.proofs.listing.variables_of_reports.Given as goal

abbrev pub invariant-loop-report : goal.invariant-loop-report
invariant-loop-report l = l.list.items ≡ map (λ r. report_variable r.now) (take l.report-index l.reports)
