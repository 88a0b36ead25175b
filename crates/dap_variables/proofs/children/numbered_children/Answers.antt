use Rattle.std.proofs.Common.{ℕ, ◌∙◌, ap, ◌++◌, ◌∷◌, []}
use Rattle.dap_variables.specs.declared.children.Child.TheVariants as child
use Rattle.dap_variables.specs.Children.{place_in}
use Rattle.dap_variables.proofs.Counted.{one_more_from}
use Rattle.dap_variables.proofs.children.numbered_children.Goals as goal

pub loop-index-preserved : goal.loop-index-preserved
loop-index-preserved c =
    let here = ap (λ p. c.loop-index.list.items ++ child.Place p ∷ []) c.place_in.ensures in
    one_more_from (λ (i : ℕ). child.Place (place_in c.args.container i)) c.args.from c.loop-index.index c.loop-index.list.items c.push.new.self.items c.loop-index.auto.index (c.in_ok-push.ensures.items ∙ here) c.loop-index.invariant
