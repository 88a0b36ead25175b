-- The words of enumerated types.
use Rattle.std.specs.Prelude.{ℕ, List, codes, Bool, if◌then◌else◌, Option, Some, None}
use Rattle.std.specs.Str.{bytes_eq}
use Rattle.dap_messages.specs.declared.request.Context.{Context}
use Rattle.dap_messages.specs.declared.request.Context.TheVariants.{Watch, Hover, Repl, Other}
use Rattle.dap_messages.specs.declared.request.ExceptionFilter.{ExceptionFilter}
use Rattle.dap_messages.specs.declared.request.ExceptionFilter.TheVariants.{Faults, Notes}
use Rattle.dap_messages.specs.declared.request.Filter.{Filter}
use Rattle.dap_messages.specs.declared.request.Filter.TheVariants.{Named, Indexed}
use Rattle.dap_messages.specs.declared.request.Granularity.{Granularity}
use Rattle.dap_messages.specs.declared.request.Granularity.TheVariants.{Statement, Line, Instruction}

-- The format of paths: "Initialize Request".
abbrev pub is_uri : List ℕ → Bool
is_uri w = bytes_eq w (codes "uri")

-- "SteppingGranularity".
abbrev pub granularity_named : List ℕ → Option Granularity
granularity_named w =
    if bytes_eq w (codes "statement") then Some Statement
    else if bytes_eq w (codes "line") then Some Line
    else if bytes_eq w (codes "instruction") then Some Instruction
    else None

-- The children of a container: "Variables Request".
abbrev pub filter_named : List ℕ → Option Filter
filter_named w =
    if bytes_eq w (codes "named") then Some Named
    else if bytes_eq w (codes "indexed") then Some Indexed
    else None

-- The context of an expression, an open set: "Evaluate Request".
abbrev pub context_named : List ℕ → Context
context_named w =
    if bytes_eq w (codes "watch") then Watch
    else if bytes_eq w (codes "hover") then Hover
    else if bytes_eq w (codes "repl") then Repl
    else Other

-- The adapter's own filters of exceptions: "SetExceptionBreakpoints Request".
abbrev pub exception_filter_named : List ℕ → Option ExceptionFilter
exception_filter_named w =
    if bytes_eq w (codes "faults") then Some Faults
    else if bytes_eq w (codes "notes") then Some Notes
    else None
