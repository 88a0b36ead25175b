-- The bodies of responses as JSON: "Thread", "Scope", "Variable" and "StackFrame" of the Debug
-- Adapter Protocol's specification.
use Rattle.std.specs.Prelude.{ℕ, ◌-◌, List, map, codes, decimal, true, false, Bool, if◌then◌else◌, nat_lt, Option, Some, None, is_some}
use Rattle.std.specs.Option.{option_map_or}
use Rattle.std.specs.Str.Lossy.{utf8_lossy}
use Rattle.places.specs.declared.place.Place.{Place}
use Rattle.places.specs.declared.place.Place.TheVariants.{MemoryByte, FileByte, DurableByte, PipeByte}
use Rattle.scenario.specs.declared.setup.Setup.{Setup}
use Rattle.machine.specs.declared.whole.Machine.{Machine}
use Rattle.inverse_log.specs.Walks.{Walk, here}
use Rattle.serde_json.specs.Data.{Data, Members, array, boolean, number, string, object, no_members, put, unsigned}
use Rattle.serde_json.specs.View.{items_of}
use Rattle.source_map.specs.declared.cursor.Position.{Position}
use Rattle.stops.specs.declared.steps.EditorThread.{EditorThread}
use Rattle.dap_messages.specs.declared.request.InitializeArguments.{InitializeArguments}
use Rattle.dap_variables.specs.Children.{count_of}
use Rattle.dap_variables.specs.Containers.{reference_of}
use Rattle.dap_views.specs.Scopes.{is_expensive, scope_name, scopes}
use Rattle.dap_views.specs.Threads.{thread_id, thread_name, threads}
use Rattle.dap_variables.specs.declared.container.Container.{Container}
use Rattle.dap_views.specs.declared.frames.Frame.{Frame}
use Rattle.dap_views.specs.declared.frames.SourceRange.{SourceRange}
use Rattle.dap_variables.specs.declared.variable.Variable.{Variable}

-- ---- Members

-- The members of an object with one more.
unfoldable pub with : List ℕ → Data → Members → Members
with name d ms = put name d ms

-- A text. Bytes that are no UTF-8 are replaced.
unfoldable pub text_data : List ℕ → Data
text_data text = string (utf8_lossy text)

unfoldable pub number_data : ℕ → Data
number_data n = number (unsigned n)

unfoldable pub list_data : List Data → Data
list_data ds = array (items_of ds)

unfoldable pub list_body : List ℕ → List Data → Data
list_body name ds = object (with name (list_data ds) no_members)

-- ---- Threads

unfoldable pub thread_data : Setup → EditorThread → Data
thread_data s t = object
    (with (codes "name") (text_data (thread_name t))
    (with (codes "id") (number_data (thread_id s t)) no_members))

-- The body of the response to `threads`.
unfoldable pub threads_body : Setup → Data
threads_body s = list_body (codes "threads") (map (thread_data s) (threads s))

-- ---- Scopes

-- How many numbered children there are, if there are some.
unfoldable pub with_indexed : ℕ → Members → Members
with_indexed n ms = if nat_lt 0 n then with (codes "indexedVariables") (number_data n) ms else ms

unfoldable pub scope_data : Setup → Machine → Container → Data
scope_data s m c = object
    (with_indexed (count_of s m c)
    (with (codes "expensive") (boolean (is_expensive c))
    (with (codes "variablesReference") (number_data (reference_of c))
    (with (codes "name") (text_data (scope_name c)) no_members))))

-- The body of the response to `scopes`.
unfoldable pub scopes_body : Walk → EditorThread → Data
scopes_body w t = list_body (codes "scopes") (map (scope_data w.setup (here w)) (scopes t))

-- ---- Variables

-- Whether a place is a byte of memory or of an object.
abbrev pub is_byte : Place → Bool
is_byte (MemoryByte a) = true
is_byte (FileByte o i) = true
is_byte (DurableByte o i) = true
is_byte (PipeByte o i) = true
is_byte _ = false

-- The reference of a variable's children, or 0 without any, and their number.
unfoldable pub with_children : Variable → Members → Members
with_children v ms =
    with_indexed v.indexed
    (with (codes "variablesReference") (number_data (option_map_or reference_of v.container 0)) ms)

-- The name of a variable's place, if it has one.
unfoldable pub with_expression : Variable → Members → Members
with_expression v ms =
    if is_some v.place then with (codes "evaluateName") (text_data v.name) ms else ms

-- The reference of the memory that starts at a byte: the name of its place.
unfoldable pub with_memory : Variable → Members → Members
with_memory v ms =
    if option_map_or is_byte v.place false then with (codes "memoryReference") (text_data v.name) ms
    else ms

unfoldable pub variable_data : Variable → Data
variable_data v = object
    (with_children v
    (with (codes "value") (text_data v.value)
    (with (codes "name") (text_data v.name)
    (with_memory v (with_expression v no_members)))))

-- The body of the response to `variables`.
unfoldable pub variables_body : List Variable → Data
variables_body vs = list_body (codes "variables") (map variable_data vs)

-- The body of the response to `evaluate`.
unfoldable pub evaluate_body : Variable → Data
evaluate_body v = object
    (with_children v (with_memory v (with (codes "result") (text_data v.value) no_members)))

-- ---- Frames

-- A line or a column, which an editor counts from 1 or from 0.
abbrev pub counted : Bool → ℕ → ℕ
counted from_1 n = if from_1 then n else n - 1

unfoldable pub with_start : InitializeArguments → Option SourceRange → Members → Members
with_start client None ms =
    with (codes "column") (number_data 0) (with (codes "line") (number_data 0) ms)
with_start client (Some r) ms =
    with (codes "column") (number_data (counted client.columns_start_at_1 r.start.column))
    (with (codes "line") (number_data (counted client.lines_start_at_1 r.start.line)) ms)

unfoldable pub with_end : InitializeArguments → Option Position → Members → Members
with_end client None ms = ms
with_end client (Some p) ms =
    with (codes "endColumn") (number_data (counted client.columns_start_at_1 p.column))
    (with (codes "endLine") (number_data (counted client.lines_start_at_1 p.line)) ms)

unfoldable pub with_range : InitializeArguments → SourceRange → Members → Members
with_range client r ms = with_end client r.end (with_start client (Some r) ms)

-- The source, and where in it a frame is. A frame that is nowhere in it has no source, line 0 and
-- column 0.
unfoldable pub with_source :
    InitializeArguments → Option SourceRange → Option Data → Members → Members
with_source client range None ms = with_start client None ms
with_source client None (Some source) ms = with_start client None ms
with_source client (Some r) (Some source) ms =
    with_range client r (with (codes "source") source ms)

unfoldable pub frame_data : InitializeArguments → Setup → Frame → Option Data → Data
frame_data client s f source = object
    (with_source client f.range source
    (with (codes "instructionPointerReference") (text_data (decimal f.moment))
    (with (codes "name") (text_data f.name)
    (with (codes "id") (number_data (thread_id s f.thread)) no_members))))

-- The body of the response to `stackTrace`.
unfoldable pub stack_body : List Data → Data
stack_body frames = object
    (with (codes "totalFrames") (number_data 1)
    (with (codes "stackFrames") (list_data frames) no_members))
