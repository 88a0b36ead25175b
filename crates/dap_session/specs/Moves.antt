-- Where requests move a run: "Next Request", "StepBack Request", "Continue Request" and others of the
-- Debug Adapter Protocol's specification.
use Rattle.std.specs.Prelude.{◌≡◌, ℕ, ◌==◌, ◌||◌, List, Bool, true, false, if◌then◌else◌, Option, Some, None, is_some, unwrap_or}
use Rattle.std.specs.List.{list_any}
use Rattle.debug_server.specs.Replies.{reply}
use Rattle.watches.specs.Stops.{forward_stop, reverse_stop}
use Rattle.watches.specs.declared.stopping.Stop.{Stop}
use Rattle.watches.specs.declared.stopping.Stop.TheVariants as stop
use Rattle.stops.specs.declared.landing.Cause.{Cause}
use Rattle.stops.specs.declared.landing.Cause.TheVariants.{Breakpoint, Finding}
use Rattle.stops.specs.Landings.{forward_landing, backward_landing}
use Rattle.stops.specs.StopPoints.{next_stop}
use Rattle.stops.specs.declared.steps.EditorThread.{EditorThread}
use Rattle.stops.specs.declared.steps.EditorThread.TheVariants.{Run}
use Rattle.dap_messages.specs.declared.request.Context.{Context}
use Rattle.dap_messages.specs.declared.request.Context.TheVariants as context
use Rattle.dap_messages.specs.declared.request.ExceptionFilter.{ExceptionFilter}
use Rattle.dap_messages.specs.declared.request.Request.{Request}
use Rattle.dap_messages.specs.declared.request.Request.TheVariants as request
use Rattle.dap_messages.specs.declared.request.StepArguments.{StepArguments}
use Rattle.dap_lists.specs.Steps.{moment_ahead, moment_back}
use Rattle.dap_views.specs.Threads.{thread_of}
use Rattle.dap_session.specs.Runs.{RunState, walk_of, len_of, gone_to}
use Rattle.dap_session.specs.Searches.{StopsAtFindings}

-- The thread with a number. A request for another number is refused.
abbrev pub thread_at : RunState → ℕ → EditorThread
thread_at r id = unwrap_or (thread_of (walk_of r).setup id) Run

-- The moment to which a step goes, forward and back.
abbrev pub next_moment : RunState → StepArguments → ℕ
next_moment r a = moment_ahead (walk_of r) (thread_at r a.thread) a.granularity

abbrev pub previous_moment : RunState → StepArguments → ℕ
previous_moment r a = moment_back (walk_of r) (thread_at r a.thread) a.granularity

-- The moment to which a step in goes: its target, or the one after the next event.
abbrev pub inner_moment : RunState → StepArguments → ℕ
inner_moment r a = unwrap_or a.target (next_stop (walk_of r).events Run (walk_of r).at)

-- The moment at which the watches stop a run, if they do.
abbrev pub watched_moment : Stop → Option ℕ
watched_moment (stop.Change m) = Some m
watched_moment (stop.Met m) = Some m
watched_moment stop.Start = None
watched_moment stop.End = None

-- The moment at which a run stops, forward and back: the nearest breakpoint, finding, or stop of the
-- data breakpoints, or else an end of the run.
abbrev pub forward_moment : RunState → ℕ
forward_moment r = (forward_landing r.marks (watched_moment (forward_stop (walk_of r) r.watches)) (walk_of r).at (len_of r)).moment

abbrev pub backward_moment : RunState → ℕ
backward_moment r = (backward_landing r.marks (watched_moment (reverse_stop (walk_of r) r.watches.watchpoints)) (walk_of r).at).moment

-- Whether a moment is one of some moments.
abbrev pub holds : List ℕ → ℕ → Bool
holds ms m = list_any (λ k. k == m) ms

-- Why a run stops where it is, if a breakpoint or a finding is there.
abbrev pub cause_here : RunState → Option Cause
cause_here r =
    if holds r.marks.breakpoints (walk_of r).at then Some Breakpoint
    else if holds r.marks.findings (walk_of r).at then Some Finding
    else None

-- Whether a run that starts stays where it is.
abbrev pub stays : RunState → Bool → Bool
stays r on_entry = on_entry || is_some (cause_here r)

-- The run once it is configured: where it is, or where the first run stops.
abbrev pub started : RunState → Bool → RunState
started r on_entry = if stays r on_entry then r else gone_to r (forward_moment r)

-- The run after a line of the console.
abbrev pub commanded : RunState → List ℕ → RunState
commanded r line = record r {
  session = record { state = (reply r.session.state line None).next; is_closed = r.session.is_closed };
}

-- Whether an expression is a line of the console.
abbrev pub is_console : Context → Bool
is_console context.Repl = true
is_console _ = false

-- Whether a request may move the run: it steps, runs or jumps, or is a line of the console.
abbrev pub may_move : Request → Bool
may_move (request.Next a) = true
may_move (request.StepIn a) = true
may_move (request.StepOut a) = true
may_move (request.StepBack a) = true
may_move (request.Continue id) = true
may_move (request.ReverseContinue id) = true
may_move (request.Goto id target) = true
may_move (request.Evaluate a) = is_console a.context
may_move _ = false

-- The run after an expression. Only the console's expressions may move it.
abbrev pub Evaluates : RunState → Context → List ℕ → RunState → Type 0
Evaluates r context.Repl line r' = r' ≡ commanded r line
Evaluates r _ line r' = r' ≡ r

-- The run after a request that sets breakpoints or filters, and after one that sets data breakpoints.
-- Neither moves, and neither changes what the other sets.
abbrev pub SetsMarks : RunState → RunState → Type 0
SetsMarks r r' = r' ≡ record r { marks = r'.marks }

abbrev pub SetsWatches : RunState → RunState → Type 0
SetsWatches r r' = r' ≡ record r { watches = r'.watches }

-- The run after a request that sets filters of its findings.
abbrev pub SetsFindings : RunState → List ExceptionFilter → RunState → Type 0
SetsFindings r filters r' = SetsMarks r r' × StopsAtFindings (walk_of r) filters r'.marks.findings

-- The run after a request that succeeds. A request that only looks changes nothing.
abbrev pub Moves : RunState → Request → RunState → Type 0
Moves r (request.Next a) r' = r' ≡ gone_to r (next_moment r a)
Moves r (request.StepOut a) r' = r' ≡ gone_to r (next_moment r a)
Moves r (request.StepIn a) r' = r' ≡ gone_to r (inner_moment r a)
Moves r (request.StepBack a) r' = r' ≡ gone_to r (previous_moment r a)
Moves r (request.Continue id) r' = r' ≡ gone_to r (forward_moment r)
Moves r (request.ReverseContinue id) r' = r' ≡ gone_to r (backward_moment r)
Moves r (request.Goto id target) r' = r' ≡ gone_to r target
Moves r (request.Evaluate a) r' = Evaluates r a.context a.expression r'
Moves r (request.SetBreakpoints a) r' = SetsMarks r r'
Moves r (request.SetFunctionBreakpoints a) r' = SetsMarks r r'
Moves r (request.SetInstructionBreakpoints a) r' = SetsMarks r r'
Moves r (request.SetExceptionBreakpoints a) r' = SetsFindings r a r'
Moves r (request.SetDataBreakpoints a) r' = SetsWatches r r'
Moves r _ r' = r' ≡ r
