-- The answers of a live run.
use Rattle.std.specs.Prelude.{List, Option, Some, None}
use Rattle.scenario.specs.declared.setup.Setup.{Setup}
use Rattle.scenario.specs.declared.event.Event.{Event}
use Rattle.machine.specs.Runs.{start, Accepts}

-- Events that are accepted from the start of some setup.
abbrev pub RunsFromSome : Option (List Event) → Type 0
RunsFromSome None = ⊥
RunsFromSome (Some es) = (setup : Setup) × Accepts (start setup) es
