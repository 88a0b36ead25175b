-- The kinds of run faults.
use Rattle.std.specs.Prelude.{Bool, true, false, List, IsTrue}
use Rattle.std.specs.List.{list_any}
use Rattle.debug_server.specs.declared.faults.RunFault.{RunFault}
use Rattle.debug_server.specs.declared.faults.RunFault.TheVariants.{Script, Schedule, Serve, Memory, Net, Trace}

-- A fault of a script, of its schedule, of serving lines, of allocation, of the network, or of a
-- trace.
pub data Kind : Type 0 where
  OfScript : Kind
  OfSchedule : Kind
  OfServing : Kind
  OfMemory : Kind
  OfListening : Kind
  OfTrace : Kind

abbrev pub is_kind : RunFault → Kind → Bool
is_kind (Script f) OfScript = true
is_kind (Schedule i n) OfSchedule = true
is_kind (Serve f) OfServing = true
is_kind Memory OfMemory = true
is_kind Net OfListening = true
is_kind (Trace f) OfTrace = true
is_kind f k = false

-- The fault has one of these kinds.
abbrev pub IsOf : List Kind → RunFault → Type 0
IsOf kinds f = IsTrue (list_any (is_kind f) kinds)
