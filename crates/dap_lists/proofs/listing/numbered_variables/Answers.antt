use Rattle.std.proofs.Common.{◌∙◌, ◌++◌, ap, map}
use Rattle.std.proofs.lemmas.Result.{IfOk-weaker}
use Rattle.dap_lists.specs.Pages.{rest_of}
use Rattle.dap_variables.specs.Variables.{child_variable}
use Rattle.dap_lists.proofs.Paging.{counted_page}
use Rattle.dap_lists.proofs.listing.numbered_variables.Goals as goal

pub returns : goal.returns
returns c =
    let s = c.setup-setup.result.now in
    let m = c.state-state.result.now in
    let same = ap (λ l. map (child_variable s m) l ++ rest_of c.window_of-from.result.rest) (c.deref.ensures.value ∙ c.in_ok-children.ensures) in
    let page = counted_page c.args.walker.now c.args.container s m c.args.page c.window_of-from.result c.count_of-count.result c.setup-setup.ensures c.state-state.ensures c.count_of-count.ensures c.requires c.window_of-from.ensures.value in
    IfOk-weaker c.variables_of_children.result _ _ (λ vs made. made ∙ (same ∙ page)) c.variables_of_children.ensures
