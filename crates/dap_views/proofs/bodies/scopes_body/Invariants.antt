use Rattle.std.proofs.Common.{◌≡◌, map, take}
use Rattle.serde_json.specs.View.{view}
use Rattle.inverse_log.specs.Walks.{here}
use Rattle.dap_views.specs.Bodies.{scope_data}
use Rattle.dap_views.specs.Scopes.{scopes}
use Rattle.dap_views.proofs.bodies.scopes_body.Given as goal

abbrev pub invariant-loop-scope : goal.invariant-loop-scope
invariant-loop-scope l = map view l.list.items ≡ map (scope_data l.walker.setup (here l.walker)) (take l.scope-index (scopes l.fn.thread))
