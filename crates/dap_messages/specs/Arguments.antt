-- The arguments of each request: "Requests" of the Debug Adapter Protocol's specification. The text
-- in quotation marks is the heading of a request or of a type there.
use Rattle.std.specs.Prelude.{ℕ, pos, nat_lt, List, Bool, true, false, if◌then◌else◌, Option, Some, None, option_map, option_and_then, Result, Ok, Err}
use Rattle.serde_json.specs.Data.{Data}
use Rattle.serde_json.specs.Find.{as_bool, as_str}
use Rattle.dap_messages.specs.declared.fault.RequestFault.{RequestFault}
use Rattle.dap_messages.specs.declared.fault.RequestFault.TheVariants.{BadArgument}
use Rattle.dap_messages.specs.declared.field.Field.{Field}
use Rattle.dap_messages.specs.declared.field.Field.TheVariants as field
use Rattle.dap_messages.specs.declared.request.BreakpointLocationsArguments.{BreakpointLocationsArguments}
use Rattle.dap_messages.specs.declared.request.CompletionsArguments.{CompletionsArguments}
use Rattle.dap_messages.specs.declared.request.Context.{Context}
use Rattle.dap_messages.specs.declared.request.DataBreakpointInfoArguments.{DataBreakpointInfoArguments}
use Rattle.dap_messages.specs.declared.request.DisassembleArguments.{DisassembleArguments}
use Rattle.dap_messages.specs.declared.request.EvaluateArguments.{EvaluateArguments}
use Rattle.dap_messages.specs.declared.request.ExceptionFilter.{ExceptionFilter}
use Rattle.dap_messages.specs.declared.request.Filter.{Filter}
use Rattle.dap_messages.specs.declared.request.GotoTargetsArguments.{GotoTargetsArguments}
use Rattle.dap_messages.specs.declared.request.Granularity.{Granularity}
use Rattle.dap_messages.specs.declared.request.InitializeArguments.{InitializeArguments}
use Rattle.dap_messages.specs.declared.request.InstructionBreakpoint.{InstructionBreakpoint}
use Rattle.dap_messages.specs.declared.request.LaunchArguments.{LaunchArguments}
use Rattle.dap_messages.specs.declared.request.DataBreakpoint.{DataBreakpoint}
use Rattle.dap_messages.specs.declared.request.FunctionBreakpoint.{FunctionBreakpoint}
use Rattle.dap_messages.specs.declared.request.Program.{Program}
use Rattle.dap_messages.specs.declared.request.ReadMemoryArguments.{ReadMemoryArguments}
use Rattle.dap_messages.specs.declared.request.SetBreakpointsArguments.{SetBreakpointsArguments}
use Rattle.dap_messages.specs.declared.request.Source.{Source}
use Rattle.dap_messages.specs.declared.request.SourceBreakpoint.{SourceBreakpoint}
use Rattle.dap_messages.specs.declared.request.StackTraceArguments.{StackTraceArguments}
use Rattle.dap_messages.specs.declared.request.StepArguments.{StepArguments}
use Rattle.dap_messages.specs.declared.request.VariablesArguments.{VariablesArguments}
use Rattle.dap_messages.specs.declared.request.Program.TheVariants.{Script, Trace}
use Rattle.dap_messages.specs.declared.request.Source.TheVariants.{Path, Reference}
use Rattle.dap_messages.specs.declared.request.Filter.TheVariants.{All}
use Rattle.dap_messages.specs.declared.request.Context.TheVariants.{Other}
use Rattle.dap_messages.specs.declared.request.Granularity.TheVariants.{Statement}
use Rattle.dap_messages.specs.Faults.{◌>>=◌, or_bad}
use Rattle.dap_messages.specs.Values.{member_of, whole_of, integer_of, needed, given, items_at}
use Rattle.dap_messages.specs.Words.{is_uri, granularity_named, filter_named, context_named, exception_filter_named}

-- ---- values

abbrev pub maybe : {A : Type 0} → (Data → Option A) → Data → Option (Option A)
maybe of d = option_map Some (of d)

-- A text that is one of some words.
abbrev pub worded : {A : Type 0} → (List ℕ → Option A) → Data → Option A
worded named d = option_and_then named (as_str d)

abbrev pub text_at : Field → Option Data → Result (List ℕ) RequestFault
text_at f o = needed as_str f o

abbrev pub maybe_text_at : Field → Option Data → Result (Option (List ℕ)) RequestFault
maybe_text_at f o = given None (maybe as_str) f o

abbrev pub maybe_whole_at : Field → Option Data → Result (Option ℕ) RequestFault
maybe_whole_at f o = given None (maybe whole_of) f o

abbrev pub granularity_at : Option Data → Result Granularity RequestFault
granularity_at o = given Statement (worded granularity_named) field.Granularity o

abbrev pub filter_at : Option Data → Result Filter RequestFault
filter_at o = given All (worded filter_named) field.Filter o

abbrev pub context_at : Option Data → Result Context RequestFault
context_at o = given Other (λ d. option_map context_named (as_str d)) field.Context o

abbrev pub uris_at : Option Data → Result Bool RequestFault
uris_at o = given false (λ d. option_map is_uri (as_str d)) field.PathFormat o

-- "Source": a reference above 0 counts, and not the path.
abbrev pub source_by : Option Data → ℕ → Result Source RequestFault
source_by o reference =
    if nat_lt 0 reference then Ok (Reference reference)
    else (text_at field.Path o >>= λ path. Ok (Path path))

abbrev pub source_in : Option Data → Result Source RequestFault
source_in o = given 0 whole_of field.SourceReference o >>= source_by o

abbrev pub source_at : Option Data → Result Source RequestFault
source_at o = source_in (member_of field.Source o)

-- ---- breakpoints

-- "SourceBreakpoint".
abbrev pub source_breakpoint : Option Data → Result SourceBreakpoint RequestFault
source_breakpoint o = do
  line ← needed whole_of field.Line o
  column ← maybe_whole_at field.Column o
  condition ← maybe_text_at field.Condition o
  Ok (record { line = line; column = column; condition = condition })

-- "DataBreakpoint".
abbrev pub data_breakpoint : Option Data → Result DataBreakpoint RequestFault
data_breakpoint o = do
  name ← text_at field.DataId o
  condition ← maybe_text_at field.Condition o
  Ok (record { «data» = name; condition = condition })

-- "FunctionBreakpoint".
abbrev pub function_breakpoint : Option Data → Result FunctionBreakpoint RequestFault
function_breakpoint o = do
  name ← text_at field.Name o
  condition ← maybe_text_at field.Condition o
  Ok (record { name = name; condition = condition })

-- "InstructionBreakpoint".
abbrev pub instruction_breakpoint : Option Data → Result InstructionBreakpoint RequestFault
instruction_breakpoint o = do
  reference ← text_at field.InstructionReference o
  offset ← given (pos 0) integer_of field.Offset o
  condition ← maybe_text_at field.Condition o
  Ok (record { reference = reference; offset = offset; condition = condition })

abbrev pub exception_filter : Data → Result ExceptionFilter RequestFault
exception_filter d = or_bad field.Filters (worded exception_filter_named d)

-- ---- requests

-- "Initialize Request".
abbrev pub initialize : Option Data → Result InitializeArguments RequestFault
initialize o = do
  lines ← given true as_bool field.LinesStartAt1 o
  columns ← given true as_bool field.ColumnsStartAt1 o
  uris ← uris_at o
  Ok (record { lines_start_at_1 = lines; columns_start_at_1 = columns; has_uris = uris })

-- Exactly one of a script and a trace.
abbrev pub program_by : Option (List ℕ) → Option (List ℕ) → Result Program RequestFault
program_by (Some path) None = Ok (Script path)
program_by None (Some path) = Ok (Trace path)
program_by script trace = Err (BadArgument field.Program)

abbrev pub program_in : Option Data → Result Program RequestFault
program_in o = maybe_text_at field.Program o >>= λ script. (maybe_text_at field.Trace o >>= program_by script)

-- "Launch Request", with the adapter's own arguments.
abbrev pub launch : Option Data → Result LaunchArguments RequestFault
launch o = do
  program ← program_in o
  stop ← given false as_bool field.StopOnEntry o
  Ok (record { program = program; stop_on_entry = stop })

-- "Restart Request": the arguments of another launch, if there are some.
abbrev pub relaunch_by : Option Data → Result (Option LaunchArguments) RequestFault
relaunch_by None = Ok None
relaunch_by (Some d) = launch (Some d) >>= λ arguments. Ok (Some arguments)

abbrev pub restart : Option Data → Result (Option LaunchArguments) RequestFault
restart o = relaunch_by (member_of field.Arguments o)

-- "StackTrace Request".
abbrev pub stack_trace : Option Data → Result StackTraceArguments RequestFault
stack_trace o = do
  thread ← needed whole_of field.ThreadId o
  start ← given 0 whole_of field.StartFrame o
  levels ← given 0 whole_of field.Levels o
  Ok (record { thread = thread; start = start; levels = levels })

-- "Variables Request".
abbrev pub variables : Option Data → Result VariablesArguments RequestFault
variables o = do
  container ← needed whole_of field.VariablesReference o
  filter ← filter_at o
  start ← given 0 whole_of field.Start o
  count ← given 0 whole_of field.Count o
  Ok (record { container = container; filter = filter; start = start; count = count })

-- "Evaluate Request".
abbrev pub evaluate : Option Data → Result EvaluateArguments RequestFault
evaluate o = do
  context ← context_at o
  expression ← text_at field.Expression o
  Ok (record { expression = expression; context = context })

-- "Next Request", "StepIn Request", "StepOut Request" and "StepBack Request".
abbrev pub step : Option Data → Result StepArguments RequestFault
step o = do
  thread ← needed whole_of field.ThreadId o
  target ← maybe_whole_at field.TargetId o
  granularity ← granularity_at o
  Ok (record { thread = thread; target = target; granularity = granularity })

-- "SetBreakpoints Request".
abbrev pub set_breakpoints : Option Data → Result SetBreakpointsArguments RequestFault
set_breakpoints o = do
  source ← source_at o
  breakpoints ← items_at (λ d. source_breakpoint (Some d)) field.Breakpoints o
  Ok (record { source = source; breakpoints = breakpoints })

-- "DataBreakpointInfo Request".
abbrev pub data_breakpoint_info : Option Data → Result DataBreakpointInfoArguments RequestFault
data_breakpoint_info o = do
  container ← maybe_whole_at field.VariablesReference o
  name ← text_at field.Name o
  Ok (record { container = container; name = name })

-- "ReadMemory Request".
abbrev pub read_memory : Option Data → Result ReadMemoryArguments RequestFault
read_memory o = do
  reference ← text_at field.MemoryReference o
  offset ← given (pos 0) integer_of field.Offset o
  count ← needed whole_of field.Count o
  Ok (record { reference = reference; offset = offset; count = count })

-- "BreakpointLocations Request".
abbrev pub breakpoint_locations : Option Data → Result BreakpointLocationsArguments RequestFault
breakpoint_locations o = do
  source ← source_at o
  line ← needed whole_of field.Line o
  column ← maybe_whole_at field.Column o
  end_line ← maybe_whole_at field.EndLine o
  end_column ← maybe_whole_at field.EndColumn o
  Ok (record { source = source; line = line; column = column; end_line = end_line; end_column = end_column })

-- "Completions Request".
abbrev pub completions : Option Data → Result CompletionsArguments RequestFault
completions o = do
  text ← text_at field.Text o
  column ← needed whole_of field.Column o
  line ← maybe_whole_at field.Line o
  Ok (record { text = text; column = column; line = line })

-- "GotoTargets Request".
abbrev pub goto_targets : Option Data → Result GotoTargetsArguments RequestFault
goto_targets o = do
  source ← source_at o
  line ← needed whole_of field.Line o
  column ← maybe_whole_at field.Column o
  Ok (record { source = source; line = line; column = column })

-- "Disassemble Request".
abbrev pub disassemble : Option Data → Result DisassembleArguments RequestFault
disassemble o = do
  reference ← text_at field.MemoryReference o
  offset ← given (pos 0) integer_of field.Offset o
  instruction_offset ← given (pos 0) integer_of field.InstructionOffset o
  instruction_count ← needed whole_of field.InstructionCount o
  Ok (record { reference = reference; offset = offset; instruction_offset = instruction_offset; instruction_count = instruction_count })
