use Rattle.std.proofs.Common.{◌≡◌, map}
use Rattle.std.specs.List.{range_with_len}
use Rattle.dap_variables.specs.declared.children.Child.TheVariants as child
use Rattle.dap_variables.specs.declared.container.Container.TheVariants.{Object}
use Rattle.dap_variables.proofs.children.of_objects.Given as goal

abbrev pub invariant-loop-number : goal.invariant-loop-number
invariant-loop-number l = l.list.items ≡ map (λ o. child.Nested (Object o)) (range_with_len 0 l.number)
