use Rattle.std.proofs.Common.{◌≡◌, map, take}
use Rattle.dap_variables.specs.Variables.{child_variable}
use Rattle.dap_lists.proofs.listing.variables_of_children.Given as goal

abbrev pub invariant-loop-child : goal.invariant-loop-child
invariant-loop-child l = l.list.items ≡ map (child_variable l.setup l.state) (take l.child-index l.children)
