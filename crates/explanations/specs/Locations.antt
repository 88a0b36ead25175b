-- Where the findings of a script's run are in its text.
use Rattle.std.specs.Prelude.{ℕ, ◌-◌, List, length, min, Option, Ok, slice_get, option_and_then}
use Rattle.script.specs.Scripts.{Scenario, Reads}
use Rattle.source_map.specs.Maps.{Maps}
use Rattle.source_map.specs.declared.map.Item.{Item}
use Rattle.source_map.specs.declared.map.SourceMap.{SourceMap}
use Rattle.explanations.specs.declared.subjects.Subject.{Subject}
use Rattle.explanations.specs.declared.subjects.Subject.TheVariants.{Instruction, Event}

-- Where the items of the script are that a text is.
abbrev pub IsMapOf : List ℕ → SourceMap → Type 0
IsMapOf text map = (p : Scenario) × Reads text (Ok p) × Maps text p map

-- The index of a moment's event, or of the last one at the end.
abbrev pub last_event : ℕ → List Item → ℕ
last_event moment schedule = min moment (length schedule - 1)

-- The place of what a finding points at.
abbrev pub item_of : SourceMap → Subject → Option Item
item_of map (Instruction step) =
    option_and_then (λ program. slice_get program step.instruction) (slice_get map.threads step.thread)
item_of map (Event moment) = slice_get map.schedule (last_event moment map.schedule)
