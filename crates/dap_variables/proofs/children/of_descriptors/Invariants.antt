use Rattle.std.proofs.Common.{◌≡◌, ◌+◌, map}
use Rattle.std.specs.List.{range_with_len}
use Rattle.dap_variables.specs.declared.children.Child.TheVariants as child
use Rattle.dap_variables.specs.declared.container.Container.TheVariants.{Descriptor}
use Rattle.dap_variables.proofs.children.of_descriptors.Given as goal

abbrev pub invariant-loop-number : goal.invariant-loop-number
invariant-loop-number l = l.list.items ≡ map (λ i. child.Nested (Descriptor (3 + i))) (range_with_len 0 l.number)
