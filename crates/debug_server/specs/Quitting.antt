-- Which command ends a session. Public contracts don't use it.
use Rattle.std.specs.Prelude.{Bool, true, false, Result, Ok}
use Rattle.commands.specs.declared.command.Command.{Command}
use Rattle.commands.specs.declared.command.Command.TheVariants.{Quit}
use Rattle.commands.specs.declared.command.CommandFault.{CommandFault}

-- Whether the command ends the session.
abbrev pub is_quit : Result Command CommandFault → Bool
is_quit (Ok Quit) = true
is_quit _ = false
