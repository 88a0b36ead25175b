use Rattle.std.proofs.Common.{◌≡◌, ◌-◌}
use Rattle.dap_variables.specs.Children.{numbered_children}
use Rattle.dap_variables.proofs.children.numbered_children.Given as goal

abbrev pub invariant-loop-index : goal.invariant-loop-index
invariant-loop-index l = l.list.items ≡ numbered_children l.container l.from (l.index - l.from)
