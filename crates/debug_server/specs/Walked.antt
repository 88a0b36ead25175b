-- The outcome of a session over some events, without a source.
use Rattle.std.specs.Prelude.{◌≡◌, List, Bool}
use Rattle.scenario.specs.declared.setup.Setup.{Setup}
use Rattle.scenario.specs.declared.event.Event.{Event}
use Rattle.machine.specs.Runs.{start, Accepts}
use Rattle.debug_server.specs.SessionStates.{SessionState}
use Rattle.debug_server.specs.Replies.{Answer}
use Rattle.debug_server.specs.Transcripts.{Unanswered, Streams, Served, Broke}
use Rattle.debug_server.specs.Schedules.{state_over}
use Rattle.debug_server.specs.declared.faults.RunFault.{RunFault}
use Rattle.debug_server.specs.declared.faults.RunFault.TheVariants.{Serve}
use Rattle.debug_server.specs.declared.faults.ServeFault.{ServeFault}

-- A session without a source replied to what was read.
pub record Replied (start : SessionState) (before after : Streams) : Type 0 where
  pub answers : List Answer
  pub unanswered : Unanswered answers
  pub next : SessionState
  pub quits : Bool
  pub served : Served start before after answers next quits

-- A serving fault interrupted the replies, and is reported as a run fault.
pub record BrokenBy (start : SessionState) (before after : Streams) (run_fault : RunFault) : Type 0 where
  pub fault : ServeFault
  pub is_serve : run_fault ≡ Serve fault
  pub answers : List Answer
  pub unanswered : Unanswered answers
  pub broke : Broke start before after answers fault

-- The events are accepted from the setup's start, and a session at their end replied to what was
-- read.
pub record Walked (setup : Setup) (events : List Event) (before after : Streams) : Type 0 where
  pub runs : Accepts (start setup) events
  pub answers : List Answer
  pub unanswered : Unanswered answers
  pub next : SessionState
  pub quits : Bool
  pub served : Served (state_over setup events) before after answers next quits

-- The events are accepted, and the replies of that session were interrupted.
pub record BrokenOff (setup : Setup) (events : List Event) (before after : Streams) (fault : ServeFault) : Type 0 where
  pub runs : Accepts (start setup) events
  pub answers : List Answer
  pub unanswered : Unanswered answers
  pub broke : Broke (state_over setup events) before after answers fault
