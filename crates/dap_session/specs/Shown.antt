-- What responses show of a run: "Threads Request", "StackTrace Request", "Scopes Request",
-- "Variables Request" and "Evaluate Request" of the Debug Adapter Protocol's specification.
use Rattle.std.specs.Prelude.{◌≡◌, ℕ, ◌==◌, ◌⊎◌, List, [], ◌∷◌, ⊤, Bool, true, false, Option, Some, option_map}
use Rattle.serde_json.specs.Data.{Data}
use Rattle.serde_json.specs.View.{view}
use Rattle.serde_json.specs.declared.value.Value.{Value}
use Rattle.explanations.specs.declared.reporting.Report.{Report}
use Rattle.sentences.specs.declared.run.ThreadStep.{ThreadStep}
use Rattle.source_map.specs.declared.map.SourceMap.{SourceMap}
use Rattle.dap_messages.specs.declared.request.Context.{Context}
use Rattle.dap_messages.specs.declared.request.Context.TheVariants as context
use Rattle.dap_messages.specs.declared.request.InitializeArguments.{InitializeArguments}
use Rattle.dap_messages.specs.declared.request.Request.{Request}
use Rattle.dap_messages.specs.declared.request.Request.TheVariants as request
use Rattle.dap_messages.specs.declared.request.VariablesArguments.{VariablesArguments}
use Rattle.stops.specs.declared.steps.EditorThread.{EditorThread}
use Rattle.stops.specs.declared.steps.EditorThread.TheVariants.{Thread}
use Rattle.dap_views.specs.Bodies.{evaluate_body, frame_data, scopes_body, stack_body, threads_body, variables_body}
use Rattle.dap_variables.specs.Containers.{container_of}
use Rattle.dap_views.specs.Evaluations.{evaluation}
use Rattle.dap_views.specs.Frames.{frame_at, frame_of}
use Rattle.dap_lists.specs.Pages.{IsPage, excludes}
use Rattle.dap_lists.specs.Listed.{AreVariables}
use Rattle.dap_variables.specs.declared.container.Container.{Container}
use Rattle.dap_variables.specs.declared.container.Container.TheVariants.{Findings}
use Rattle.dap_views.specs.declared.frames.Frame.{Frame}
use Rattle.dap_variables.specs.declared.variable.Variable.{Variable}
use Rattle.dap_session.specs.Moves.{holds, thread_at}
use Rattle.dap_session.specs.Runs.{RunState, walk_of}
use Rattle.dap_session.specs.Searches.{AreReportsOf, IsPointedAt}

abbrev pub IsBody : Option Value → Data → Type 0
IsBody body d = option_map view body ≡ Some d

-- What a thread does next.
pub record IsNext (r : RunState) (t : EditorThread) (frame : Frame) : Type 0 where
  pub map : Option SourceMap
  pub is_frame : frame ≡ frame_of (walk_of r) t map

-- The instruction of a thread at which a finding points, where the run stops at a finding.
pub record IsPointed (r : RunState) (t : EditorThread) (frame : Frame) : Type 0 where
  pub map : Option SourceMap
  pub step : ThreadStep
  pub of_thread : t ≡ Thread step.thread
  pub stops : holds r.marks.findings (walk_of r).at ≡ true
  pub points : IsPointedAt (walk_of r) (walk_of r).at step
  pub is_frame : frame ≡ frame_at (walk_of r) step.thread step.instruction map

-- The frame of a thread: what it does next, or where the run stops at a finding, the instruction at
-- which the finding points.
abbrev pub IsShown : RunState → EditorThread → Frame → Type 0
IsShown r t frame = IsNext r t frame ⊎ IsPointed r t frame

-- The same, as JSON.
pub record IsFrame (r : RunState) (t : EditorThread) (json : Data) : Type 0 where
  pub client : InitializeArguments
  pub source : Option Data
  pub frame : Frame
  pub is_shown : IsShown r t frame
  pub is_json : json ≡ frame_data client (walk_of r).setup frame source

-- The only frame of a thread, if the requested page has it.
abbrev pub ShowsStack : Bool → RunState → EditorThread → Option Value → Type 0
ShowsStack true r t body = (frame : Data) × IsFrame r t frame × IsBody body (stack_body (frame ∷ []))
ShowsStack false r t body = IsBody body (stack_body [])

-- A page of the variables of a container, at the position. Of the findings it lists those of the run.
pub record ShowsVariables (r : RunState) (a : VariablesArguments) (body : Option Value) : Type 0 where
  pub container : Container
  pub is_container : container_of a.container ≡ Some container
  pub reports : List Report
  pub are_listed : container ≡ Findings → AreReportsOf (walk_of r) reports
  pub variables : List Variable
  pub is_page : IsPage (excludes a.filter container) (AreVariables (walk_of r) reports container)
      (record { filter = a.filter; start = a.start; count = a.count }) variables
  pub is_body : IsBody body (variables_body variables)

-- The value of an expression at the position. The console's are lines of commands.
abbrev pub ShowsValue : RunState → Context → List ℕ → Option Value → Type 0
ShowsValue r context.Repl line body = ⊤
ShowsValue r _ text body =
    option_map view body ≡ option_map evaluate_body (evaluation (walk_of r) text)

-- The body of the response to a request that shows the position.
abbrev pub Shows : RunState → Request → Option Value → Type 0
Shows r request.Threads body = IsBody body (threads_body (walk_of r).setup)
Shows r (request.StackTrace a) body = ShowsStack (a.start == 0) r (thread_at r a.thread) body
Shows r (request.Scopes frame) body = IsBody body (scopes_body (walk_of r) (thread_at r frame))
Shows r (request.Variables a) body = ShowsVariables r a body
Shows r (request.Evaluate a) body = ShowsValue r a.context a.expression body
Shows r _ body = ⊤
