use Rattle.std.proofs.Common.{◌≡◌, map, take}
use Rattle.std.specs.Prelude.{filter}
use Rattle.dap_lists.specs.Listed.{is_shown}
use Rattle.dap_lists.proofs.reports.shown.Given as goal

abbrev pub invariant-loop-report : goal.invariant-loop-report
invariant-loop-report l = map (λ r. r.now) l.list.items ≡ filter (is_shown l.walker) (take l.report-index l.reports)
