-- The values of expressions.
use Rattle.std.specs.Prelude.{ℕ, List, ◌++◌, codes, decimal, if◌then◌else◌, Option, Some, None, option_map, Result, Ok}
use Rattle.std.specs.Str.{bytes_eq}
use Rattle.places.specs.declared.place.Place.{Place}
use Rattle.scenario.specs.declared.setup.Setup.{Setup}
use Rattle.inverse_log.specs.Walks.{Walk, here}
use Rattle.commands.specs.Commands.{command_of}
use Rattle.commands.specs.declared.command.Command.{Command}
use Rattle.commands.specs.declared.command.Command.TheVariants.{Show}
use Rattle.commands.specs.declared.command.CommandFault.{CommandFault}
use Rattle.dap_variables.specs.Variables.{place_variable, plain_variable}
use Rattle.dap_variables.specs.declared.variable.Variable.{Variable}

-- The place that a `show` command names.
abbrev pub shown_place : Result Command CommandFault → Option Place
shown_place (Ok (Show p)) = Some p
shown_place _ = None

-- The place that a text names in the words of the command `show`.
unfoldable pub place_named : Setup → List ℕ → Option Place
place_named s text = shown_place (command_of s (codes "show " ++ text))

abbrev pub moment_variable : ℕ → Variable
moment_variable at = plain_variable (codes "moment") (decimal at)

-- The value of an expression at the position: of a place, or the position itself.
unfoldable pub evaluation : Walk → List ℕ → Option Variable
evaluation w text =
    if bytes_eq text (codes "moment") then Some (moment_variable w.at)
    else option_map (place_variable w.setup (here w)) (place_named w.setup text)
