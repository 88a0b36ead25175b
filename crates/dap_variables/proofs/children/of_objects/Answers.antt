use Rattle.std.proofs.Common.{ℕ, []}
use Rattle.dap_variables.specs.declared.children.Child.TheVariants as child
use Rattle.dap_variables.specs.declared.container.Container.TheVariants.{Object}
use Rattle.dap_variables.proofs.Counted.{one_more}
use Rattle.dap_variables.proofs.children.of_objects.Goals as goal

pub loop-number-preserved : goal.loop-number-preserved
loop-number-preserved c =
    one_more (λ (o : ℕ). child.Nested (Object o)) c.loop-number.number [] c.loop-number.list.items c.push.new.self.items c.in_ok-push.ensures.items c.loop-number.invariant
