use Rattle.std.proofs.Common.{◌≡◌, map, take}
use Rattle.serde_json.specs.View.{view}
use Rattle.dap_views.specs.Bodies.{variable_data}
use Rattle.dap_views.proofs.bodies.variables_body.Given as goal

abbrev pub invariant-loop-variable : goal.invariant-loop-variable
invariant-loop-variable l = map view l.list.items ≡ map variable_data (take l.variable-index l.variables)
