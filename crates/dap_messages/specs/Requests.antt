-- The request that a message is: "ProtocolMessage" and "Request" of the Debug Adapter Protocol's
-- specification.
use Rattle.std.specs.Prelude.{ℕ, List, codes, Bool, false, if◌then◌else◌, Option, Some, None, option_and_then, Result, Ok, Err}
use Rattle.std.specs.Result.{result_unwrap_or}
use Rattle.std.specs.Str.{bytes_eq}
use Rattle.serde_json.specs.Data.{Data, object}
use Rattle.serde_json.specs.Find.{as_str}
use Rattle.dap_messages.specs.declared.command.Command.{Command}
use Rattle.dap_messages.specs.declared.command.Command.TheVariants as command
use Rattle.dap_messages.specs.declared.fault.RequestFault.{RequestFault}
use Rattle.dap_messages.specs.declared.fault.RequestFault.TheVariants.{NotAnObject, NotARequest, UnknownCommand}
use Rattle.dap_messages.specs.declared.field.Field.TheVariants as field
use Rattle.dap_messages.specs.declared.request.Request.{Request}
use Rattle.dap_messages.specs.declared.request.Request.TheVariants as request
use Rattle.dap_messages.specs.Arguments.{breakpoint_locations, completions, data_breakpoint_info, disassemble, evaluate, goto_targets, initialize, launch, read_memory, restart, set_breakpoints, stack_trace, step, variables, exception_filter, data_breakpoint, function_breakpoint, instruction_breakpoint}
use Rattle.dap_messages.specs.Commands.{command_named}
use Rattle.dap_messages.specs.Faults.{◌>>=◌}
use Rattle.dap_messages.specs.Values.{member_of, whole_of, needed, given, items_at}

-- A request with the arguments that were read, or the fault of reading them.
abbrev pub as_request : {A : Type 0} → (A → Request) → Result A RequestFault → Result Request RequestFault
as_request make read = read >>= λ x. Ok (make x)

-- The request with a command and these arguments.
abbrev pub arguments_of : Command → Option Data → Result Request RequestFault
arguments_of command.Initialize o = as_request request.Initialize (initialize o)
arguments_of command.Launch o = as_request request.Launch (launch o)
arguments_of command.ConfigurationDone o = Ok request.ConfigurationDone
arguments_of command.Disconnect o = Ok request.Disconnect
arguments_of command.Threads o = Ok request.Threads
arguments_of command.StackTrace o = as_request request.StackTrace (stack_trace o)
arguments_of command.Scopes o = as_request request.Scopes (needed whole_of field.FrameId o)
arguments_of command.Variables o = as_request request.Variables (variables o)
arguments_of command.Evaluate o = as_request request.Evaluate (evaluate o)
arguments_of command.Next o = as_request request.Next (step o)
arguments_of command.StepIn o = as_request request.StepIn (step o)
arguments_of command.StepOut o = as_request request.StepOut (step o)
arguments_of command.StepBack o = as_request request.StepBack (step o)
arguments_of command.Continue o = as_request request.Continue (needed whole_of field.ThreadId o)
arguments_of command.ReverseContinue o = as_request request.ReverseContinue (needed whole_of field.ThreadId o)
arguments_of command.SetBreakpoints o = as_request request.SetBreakpoints (set_breakpoints o)
arguments_of command.DataBreakpointInfo o = as_request request.DataBreakpointInfo (data_breakpoint_info o)
arguments_of command.SetDataBreakpoints o = as_request request.SetDataBreakpoints (items_at (λ d. data_breakpoint (Some d)) field.Breakpoints o)
arguments_of command.SetExceptionBreakpoints o = as_request request.SetExceptionBreakpoints (items_at exception_filter field.Filters o)
arguments_of command.ExceptionInfo o = as_request request.ExceptionInfo (needed whole_of field.ThreadId o)
arguments_of command.ReadMemory o = as_request request.ReadMemory (read_memory o)
arguments_of command.BreakpointLocations o = as_request request.BreakpointLocations (breakpoint_locations o)
arguments_of command.Completions o = as_request request.Completions (completions o)
arguments_of command.Restart o = as_request request.Restart (restart o)
arguments_of command.GotoTargets o = as_request request.GotoTargets (goto_targets o)
arguments_of command.Goto o = needed whole_of field.ThreadId o >>= λ thread. as_request (request.Goto thread) (needed whole_of field.TargetId o)
arguments_of command.Disassemble o = as_request request.Disassemble (disassemble o)
arguments_of command.SetInstructionBreakpoints o = as_request request.SetInstructionBreakpoints (items_at (λ d. instruction_breakpoint (Some d)) field.Breakpoints o)
arguments_of command.StepInTargets o = as_request request.StepInTargets (needed whole_of field.FrameId o)
arguments_of command.SetFunctionBreakpoints o = as_request request.SetFunctionBreakpoints (items_at (λ d. function_breakpoint (Some d)) field.Breakpoints o)
arguments_of command.Source o = as_request request.Source (needed whole_of field.SourceReference o)
arguments_of command.LoadedSources o = Ok request.LoadedSources

abbrev pub text_in : Option Data → Option (List ℕ)
text_in o = option_and_then as_str o

abbrev pub command_in : Option Data → Option Command
command_in o = option_and_then command_named (text_in (member_of field.Command o))

-- Whether the message's type is "request".
abbrev pub is_request : Option (List ℕ) → Bool
is_request None = false
is_request (Some w) = bytes_eq w (codes "request")

abbrev pub request_by : Option Command → Option Data → Result Request RequestFault
request_by None o = Err UnknownCommand
request_by (Some c) o = arguments_of c o

abbrev pub request_in : Option Data → Result Request RequestFault
request_in o =
    if is_request (text_in (member_of field.Type o)) then request_by (command_in o) (member_of field.Arguments o)
    else Err NotARequest

abbrev pub request_of : Data → Result Request RequestFault
request_of (object ms) = request_in (Some (object ms))
request_of d = Err NotAnObject

-- A message's number, or 0 if it has none.
abbrev pub seq_in : Data → ℕ
seq_in d = result_unwrap_or (given 0 whole_of field.Seq (Some d)) 0
