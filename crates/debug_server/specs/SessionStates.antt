-- The state of a session.
use Rattle.std.specs.Prelude.{◌≤◌, length, Bool}
use Rattle.machine.specs.Runs.{start, Accepts}
use Rattle.inverse_log.specs.Walks.{Walk}
use Rattle.watches.specs.Watchpoints.{Stops, nothing}

-- A walk through a run, with watches and breaks.
pub record SessionState : Type 0 where
  pub walk : Walk
  pub stops : Stops

-- The walk's events run from the setup's start, and its position is within them.
pub record Runs (w : Walk) : Type 0 where
  pub accepted : Accepts (start w.setup) w.events
  pub within : w.at ≤ length w.events

-- The state without watches and breaks.
abbrev pub without_stops : Walk → SessionState
without_stops w = record { walk = w; stops = nothing }

-- The state with another walk.
abbrev pub walked_to : SessionState → Walk → SessionState
walked_to v w = record { walk = w; stops = v.stops }

-- The state with other watches and breaks.
abbrev pub with_stops : SessionState → Stops → SessionState
with_stops v m = record { walk = v.walk; stops = m }

-- A session: its state, and whether it accepts no more lines.
pub record SessionValue : Type 0 where
  pub state : SessionState
  pub is_closed : Bool
