use Rattle.std.proofs.Common.{◌≡◌, ◌∙◌, length, rules}
use Rattle.std.proofs.lemmas.Result.{IfOk-weaker}
use Rattle.dap_variables.specs.Children.{named_children}
use Rattle.dap_lists.proofs.Paging.{named_page}
use Rattle.dap_lists.proofs.listing.named_variables.Goals as goal

pub returns : goal.returns
returns c =
    let long : c.len.result ≡ length c.deref.result.now = search rules in
    let s = c.setup-setup.result.now in
    let m = c.state-state.result.now in
    let items : c.deref.result.now ≡ named_children s m c.args.container = c.deref.ensures.value ∙ c.in_ok-children.ensures in
    IfOk-weaker c.variables_of_children.result _ _ (λ vs made. made ∙ named_page c.args.walker.now c.args.container s m c.args.page c.window_of-from.result c.len.result c.deref.result.now c.setup-setup.ensures c.state-state.ensures items c.requires c.window_of-from.ensures.value long) c.variables_of_children.ensures
