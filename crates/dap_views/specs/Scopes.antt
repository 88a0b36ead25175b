-- The scopes of a frame.
use Rattle.std.specs.Prelude.{ℕ, List, [], ◌∷◌, codes, Bool, true, false}
use Rattle.stops.specs.declared.steps.EditorThread.{EditorThread}
use Rattle.dap_variables.specs.declared.container.Container.{Container}
use Rattle.dap_variables.specs.declared.container.Container.TheVariants.{Thread, Rings, Requests, Objects, Memory, Changes, Findings}

-- The scopes of a thread's frame, in order.
abbrev pub scopes : EditorThread → List Container
scopes t = Thread t ∷ Rings ∷ Requests ∷ Objects ∷ Memory ∷ Changes ∷ Findings ∷ []

abbrev pub scope_name : Container → List ℕ
scope_name (Thread t) = codes "Thread"
scope_name Rings = codes "Rings"
scope_name Requests = codes "Requests"
scope_name Objects = codes "Objects"
scope_name Memory = codes "Memory"
scope_name Changes = codes "Changes"
scope_name Findings = codes "Findings"
scope_name _ = []

-- Whether an editor opens a scope only on request. The findings are searched for when they are
-- first needed.
abbrev pub is_expensive : Container → Bool
is_expensive Findings = true
is_expensive _ = false
