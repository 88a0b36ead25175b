-- A session at the end of a schedule, and the faults of running one.
use Rattle.std.specs.Prelude.{ℕ, List, length}
use Rattle.scenario.specs.declared.setup.Setup.{Setup}
use Rattle.scenario.specs.declared.event.Event.{Event}
use Rattle.scenario.specs.declared.event.Refusal.{Refusal}
use Rattle.scenario.specs.declared.event.Refusal.TheVariants as refusal
use Rattle.machine.specs.Runs.{IsRefused}
use Rattle.inverse_log.specs.declared.refusal.ExtendRefusal.{ExtendRefusal}
use Rattle.inverse_log.specs.declared.refusal.ExtendRefusal.TheVariants.{TraceFull, Refused}
use Rattle.inverse_log.specs.Walks.{Walk, fresh_with, moved, extended}
use Rattle.debug_server.specs.SessionStates.{SessionState, without_stops}
use Rattle.debug_server.specs.declared.faults.RunFault.{RunFault}
use Rattle.debug_server.specs.declared.faults.RunFault.TheVariants.{Script, Schedule, Serve, Memory, Net, Trace}

-- The walk of a session without events. It keeps a checkpoint each 256 events, and undoes at most
-- 256 events one by one.
abbrev pub opened : Setup → Walk
opened setup = fresh_with setup 256 256

-- The walk over some events, at their end.
abbrev pub walk_over : Setup → List Event → Walk
walk_over setup es = moved (extended (opened setup) es) (length es)

-- The session's state there, without watches and breaks.
abbrev pub state_over : Setup → List Event → SessionState
state_over setup es = without_stops (walk_over setup es)

-- The fault of a schedule: the first event that was refused, or an allocation failure.
abbrev pub StopsBy : Setup → List Event → RunFault → Type 0
StopsBy setup es (Schedule i n) = IsRefused setup es i n
StopsBy setup es Memory = Unit {0}
StopsBy setup es (Script f) = ⊥
StopsBy setup es (Serve f) = ⊥
StopsBy setup es Net = ⊥
StopsBy setup es (Trace f) = ⊥

abbrev pub fault_by : ℕ → Refusal → RunFault
fault_by i refusal.Memory = Memory
fault_by i n = Schedule i n

-- The fault of a schedule that can't be appended to a walk.
abbrev pub fault_of : ExtendRefusal → RunFault
fault_of TraceFull = Memory
fault_of (Refused i n) = fault_by i n
