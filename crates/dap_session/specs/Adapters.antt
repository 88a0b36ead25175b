-- The state of a debug adapter, and how requests change it.
use Rattle.std.specs.Prelude.{◌≡◌, ◌⊎◌, Bool, true, false, not, Option, Some, None, option_map, Result, MatchResult, OnOk}
use Rattle.dap_messages.specs.declared.request.Request.{Request}
use Rattle.dap_messages.specs.declared.request.Request.TheVariants as request
use Rattle.dap_session.specs.declared.adapter.Phase.{Phase}
use Rattle.dap_session.specs.declared.adapter.Phase.TheVariants as phase
use Rattle.dap_answers.specs.declared.answer.Asked.{Asked}
use Rattle.serde_json.specs.declared.value.Value.{Value}
use Rattle.dap_answers.specs.declared.refusal.Refusal.{Refusal}
use Rattle.dap_answers.specs.declared.refusal.Refusal.TheVariants as refusal
use Rattle.dap_session.specs.Moves.{Moves, may_move, started}
use Rattle.dap_session.specs.Runs.{RunState, walk_of}
use Rattle.dap_session.specs.Shown.{Shows}

pub record AdapterState : Type 0 where
  pub phase : Phase
  -- The launch that is not answered yet.
  pub owed : Option Asked
  pub run : Option RunState
  pub stops_on_entry : Bool

-- A response is owed only after a launch, until the run is configured.
abbrev pub OwesOnlyALaunch : Phase → Option Asked → Type 0
OwesOnlyALaunch p owed = (p ≡ phase.Launched → ⊥) → owed ≡ None

-- The state with another run.
abbrev pub with_run : AdapterState → Option RunState → AdapterState
with_run s run = record s { run = run }

-- Whether a request about the run is accepted in a phase: only after a launch, and one that may move
-- the run only once it is configured.
abbrev pub is_accepted : Phase → Request → Bool
is_accepted phase.New request = false
is_accepted phase.Initialized request = false
is_accepted phase.Launched request = not (may_move request)
is_accepted phase.Running request = true

-- A request about the run moved it and showed the position, or was refused and changed nothing. Only a line of the console
-- may have moved it before an allocation failed.
abbrev pub RunReplies : Option RunState → Request → Result (Option Value) Refusal → Option RunState → Type 0
RunReplies None request outcome run' = run' ≡ None
RunReplies (Some run) request outcome run' =
    (next : RunState) × (run' ≡ Some next)
    × MatchResult outcome (λ body. Moves run request next × Shows run request body)
    (λ e. (next ≡ run) ⊎ (e ≡ refusal.Memory))

-- A run was loaded, and is at its start.
abbrev pub Launches : AdapterState → Asked → AdapterState → Type 0
Launches s asked s' =
    (s'.phase ≡ phase.Launched) × (s'.owed ≡ Some asked)
    × ((run : RunState) × (s'.run ≡ Some run) × ((walk_of run).at ≡ 0))

-- The run is configured, and stops at its start or where it first stops.
abbrev pub configured : AdapterState → AdapterState
configured s = record s {
  phase = phase.Running;
  owed = None;
  run = option_map (λ run. started run s.stops_on_entry) s.run;
}

-- A run was loaded in place of the current one.
abbrev pub IsRestarted : AdapterState → AdapterState → Type 0
IsRestarted s s' = (s'.phase ≡ s.phase) × (s'.owed ≡ s.owed)

-- How a request changes the state. A request is accepted only in its phase, and one that is refused
-- changes nothing.
abbrev pub Handles : AdapterState → Asked → Request → Result (Option Value) Refusal → AdapterState → Type 0
Handles s asked (request.Initialize client) o s' =
    MatchResult o (λ _. (s.phase ≡ phase.New) × (s' ≡ record s { phase = phase.Initialized })) (λ _. s' ≡ s)
Handles s asked (request.Launch arguments) o s' =
    MatchResult o (λ _. (s.phase ≡ phase.Initialized) × Launches s asked s') (λ _. s' ≡ s)
Handles s asked request.ConfigurationDone o s' =
    MatchResult o (λ _. (s.phase ≡ phase.Launched) × (s' ≡ configured s)) (λ _. s' ≡ s)
Handles s asked request.Disconnect o s' = s'.run ≡ s.run
Handles s asked (request.Restart arguments) o s' =
    MatchResult o (λ _. (s.phase ≡ phase.Running) × IsRestarted s s') (λ _. s' ≡ s)
Handles s asked req o s' =
    (s' ≡ with_run s s'.run) × RunReplies s.run req o s'.run
    × OnOk o (is_accepted s.phase req ≡ true)
