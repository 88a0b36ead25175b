-- The values at the first moment of a range.
use Rattle.std.specs.Prelude.{ℕ, ◌≤◌, min, List, length}
use Rattle.scenario.specs.declared.event.Event.{Event}
use Rattle.scenario.specs.declared.setup.Setup.{Setup}
use Rattle.machine.specs.Runs.{moment}
use Rattle.machine.specs.Whole.{view}
use Rattle.timeline_values.specs.declared.values.Values.{Values}
use Rattle.timeline_values.specs.Values.{AreValues}

-- The values at moment `at`, or at the end of a shorter run, once n events reach it.
abbrev pub HasOpened : Setup → List Event → ℕ → ℕ → Values → Type 0
HasOpened s es n at x =
    min at (length es) ≤ n
    → AreValues s (view (moment s es (min at (length es)))) x.values.items x.regions.items
