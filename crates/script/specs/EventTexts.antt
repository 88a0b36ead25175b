-- Events as text, in the words of a script's schedule.
use Rattle.std.specs.Prelude.{ℕ, List, [], ◌++◌, codes, decimal}
use Rattle.entries.specs.declared.choice.Choice.{Choice}
use Rattle.entries.specs.declared.choice.Choice.TheVariants.{Full, Short, Eio}
use Rattle.scenario.specs.declared.event.Event.{Event}
use Rattle.scenario.specs.declared.event.Event.TheVariants.{Step, Take, Sleep, Issue, Finish, Expire, Tick}

-- The text of a choice after the row's number. A full success has none.
abbrev pub choice_text : Choice → List ℕ
choice_text Full = []
choice_text (Short bytes) = codes " short " ++ decimal bytes
choice_text Eio = codes " eio"

-- The word of an event and its numbers.
abbrev pub event_text : Event → List ℕ
event_text (Step thread) = codes "step " ++ decimal thread
event_text (Take entries) = codes "take " ++ decimal entries
event_text Sleep = codes "sleep"
event_text (Issue row) = codes "issue " ++ decimal row
event_text (Finish row choice) = codes "finish " ++ (decimal row ++ choice_text choice)
event_text (Expire row) = codes "expire " ++ decimal row
event_text (Tick nanoseconds) = codes "tick " ++ decimal nanoseconds
