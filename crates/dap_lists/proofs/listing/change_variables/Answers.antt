use Rattle.std.proofs.Common.{◌≡◌, ◌∙◌, ap, List, length, map, Bor, rules}
use Rattle.std.proofs.lemmas.Result.{IfOk-weaker}
use Rattle.run_log.specs.Lines.{rows}
use Rattle.run_log.specs.declared.changed.Changed.{Changed}
use Rattle.dap_lists.specs.Listed.{row_variable}
use Rattle.dap_lists.proofs.Paging.{seen_page}
use Rattle.dap_lists.proofs.listing.change_variables.Goals as goal

pub returns : goal.returns
returns c =
    let now = λ (r : Bor (List Changed)). r.now in
    let long : c.len.result ≡ length c.deref.result.now = search rules in
    let seen : map now c.deref.result.now ≡ rows c.args.changes.now = ap (map now) c.deref.ensures.value ∙ c.in_ok-rows.ensures in
    IfOk-weaker c.variables_of_rows.result _ _ (λ vs made. made ∙ seen_page (row_variable c.args.setup.now) now c.args.page c.window_of-from.result c.len.result c.deref.result.now (rows c.args.changes.now) c.window_of-from.ensures.value long seen) c.variables_of_rows.ensures
