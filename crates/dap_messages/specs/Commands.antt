-- The names of commands: "Requests" of the Debug Adapter Protocol's specification.
use Rattle.std.specs.Prelude.{ℕ, List, Option, codes, find}
use Rattle.std.specs.Str.{bytes_eq}
use Rattle.dap_messages.specs.declared.command.Command.{Command}
use Rattle.dap_messages.specs.declared.command.Command.TheVariants as command
use Rattle.dap_messages.specs.declared.command.TheConstants.{COMMANDS}

unfoldable pub command_name : Command → List ℕ
command_name command.Initialize = codes "initialize"
command_name command.Launch = codes "launch"
command_name command.ConfigurationDone = codes "configurationDone"
command_name command.Disconnect = codes "disconnect"
command_name command.Threads = codes "threads"
command_name command.StackTrace = codes "stackTrace"
command_name command.Scopes = codes "scopes"
command_name command.Variables = codes "variables"
command_name command.Evaluate = codes "evaluate"
command_name command.Next = codes "next"
command_name command.StepIn = codes "stepIn"
command_name command.StepOut = codes "stepOut"
command_name command.StepBack = codes "stepBack"
command_name command.Continue = codes "continue"
command_name command.ReverseContinue = codes "reverseContinue"
command_name command.SetBreakpoints = codes "setBreakpoints"
command_name command.DataBreakpointInfo = codes "dataBreakpointInfo"
command_name command.SetDataBreakpoints = codes "setDataBreakpoints"
command_name command.SetExceptionBreakpoints = codes "setExceptionBreakpoints"
command_name command.ExceptionInfo = codes "exceptionInfo"
command_name command.ReadMemory = codes "readMemory"
command_name command.BreakpointLocations = codes "breakpointLocations"
command_name command.Completions = codes "completions"
command_name command.Restart = codes "restart"
command_name command.GotoTargets = codes "gotoTargets"
command_name command.Goto = codes "goto"
command_name command.Disassemble = codes "disassemble"
command_name command.SetInstructionBreakpoints = codes "setInstructionBreakpoints"
command_name command.StepInTargets = codes "stepInTargets"
command_name command.SetFunctionBreakpoints = codes "setFunctionBreakpoints"
command_name command.Source = codes "source"
command_name command.LoadedSources = codes "loadedSources"

-- The command with a name.
abbrev pub command_named : List ℕ → Option Command
command_named name = find (λ c. bytes_eq (command_name c) name) COMMANDS
