use Rattle.std.proofs.Common.{◌≡◌, ◌∙◌, ap, length, map, Bor, rules}
use Rattle.std.proofs.lemmas.Result.{IfOk-weaker}
use Rattle.std.specs.Prelude.{filter}
use Rattle.explanations.specs.declared.reporting.Report.{Report}
use Rattle.dap_lists.specs.Listed.{is_shown, report_variable}
use Rattle.dap_lists.proofs.Paging.{seen_page}
use Rattle.dap_lists.proofs.listing.finding_variables.Goals as goal

pub returns : goal.returns
returns c =
    let now = λ (r : Bor Report). r.now in
    let ys = filter (is_shown c.args.walker.now) c.args.reports.now in
    let long : c.len.result ≡ length c.deref.result.now = search rules in
    let seen : map now c.deref.result.now ≡ ys = ap (map now) c.deref.ensures.value ∙ c.in_ok-list.ensures in
    IfOk-weaker c.variables_of_reports.result _ _ (λ vs made. made ∙ seen_page report_variable now c.args.page c.window_of-from.result c.len.result c.deref.result.now ys c.window_of-from.ensures.value long seen) c.variables_of_reports.ensures
