-- Traces of scripts.
use Rattle.std.specs.Prelude.{◌≡◌, ◌⊎◌, ℕ, List, length}
use Rattle.script.specs.Scripts.{Scenario}
use Rattle.scenario.specs.declared.event.Event.{Event}
use Rattle.scenario.specs.declared.setup.Setup.{Setup}
use Rattle.scenario.specs.declared.event.Refusal.{Refusal}
use Rattle.machine.specs.Runs.{start, Accepts, IsRefused}
use Rattle.traces.specs.Setups.{canonical, IsTrace2}
use Rattle.traces.specs.Spelling.{IsTrace}
use Rattle.command_line.specs.declared.task.Form.{Form}
use Rattle.command_line.specs.declared.task.Form.TheVariants.{Events, Whole}
use Rattle.eager_runs.specs.Eager.{IsEager, IsRefusedEagerly}
use Rattle.debug_server.specs.declared.tracing.Traced.{Traced}

-- The bytes are the trace of a setup and events in a form.
abbrev pub IsSpelling : Form → Setup → List Event → List ℕ → Type 0
IsSpelling Events setup events bytes = IsTrace events bytes
IsSpelling Whole setup events bytes = IsTrace2 (canonical setup) events bytes

-- The trace of a setup and events in a form, with the number of the events.
pub record IsTraceOf (form : Form) (setup : Setup) (events : List Event) (t : Traced) : Type 0 where
  pub spelling : IsSpelling form setup events t.bytes.items
  pub counted : t.events ≡ length events

-- The trace of a scenario's eager run in a form. The rules accept the schedule, and each event of
-- the eager run.
pub record IsEagerTrace (form : Form) (p : Scenario) (t : Traced) : Type 0 where
  pub scheduled : Accepts (start p.setup) p.schedule
  pub made : List Event
  pub accepts : Accepts (start p.setup) made
  pub eager : IsEager p.setup p.schedule made
  pub trace : IsTraceOf form p.setup made t

-- The event at index i of the schedule is refused: the first one by its own run, or else the first
-- one by the eager run.
abbrev pub StopsEagerly : Scenario → ℕ → Refusal → Type 0
StopsEagerly p i n =
    IsRefused p.setup p.schedule i n
    ⊎ (Accepts (start p.setup) p.schedule × IsRefusedEagerly p.setup p.schedule i n)
