use Rattle.std.proofs.Common.{◌≡◌, map, take}
use Rattle.serde_json.specs.View.{view}
use Rattle.dap_views.specs.Bodies.{thread_data}
use Rattle.dap_views.specs.Threads.{threads}
use Rattle.dap_views.proofs.bodies.threads_body.Given as goal

abbrev pub invariant-loop-thread : goal.invariant-loop-thread
invariant-loop-thread l = map view l.list.items ≡ map (thread_data l.setup) (take l.thread-index (threads l.setup))
