-- A run that is debugged.
use Rattle.std.specs.Prelude.{ℕ, length}
use Rattle.inverse_log.specs.Walks.{Walk, jumped}
use Rattle.watches.specs.Watchpoints.{Stops}
use Rattle.debug_server.specs.SessionStates.{SessionValue, walked_to}
use Rattle.stops.specs.declared.landing.Marks.{Marks}

-- The session of the console, the data breakpoints, and the moments of the other stops.
pub record RunState : Type 0 where
  pub session : SessionValue
  pub watches : Stops
  pub marks : Marks

abbrev pub walk_of : RunState → Walk
walk_of r = r.session.state.walk

-- The run after a jump to a moment.
abbrev pub gone_to : RunState → ℕ → RunState
gone_to r m = record r {
  session = record { state = walked_to r.session.state (jumped (walk_of r) m); is_closed = r.session.is_closed };
}

-- How many events the run has.
abbrev pub len_of : RunState → ℕ
len_of r = length (walk_of r).events
