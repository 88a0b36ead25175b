-- The events of a schedule.
use Rattle.std.specs.Prelude.{ℕ, List, [], ◌∷◌, codes, if◌then◌else◌, Option, Some, None, option_map, Result}
use Rattle.std.specs.Str.{bytes_eq}
use Rattle.serde_json.specs.Data.{Data, string}
use Rattle.entries.specs.declared.choice.Choice.{Choice}
use Rattle.entries.specs.declared.choice.Choice.TheVariants.{Full, Short, Eio}
use Rattle.scenario.specs.declared.event.Event.{Event}
use Rattle.scenario.specs.declared.event.Event.TheVariants.{Step, Take, Sleep, Issue, Finish, Expire, Tick}
use Rattle.script.specs.declared.fault.Key.TheVariants as key
use Rattle.script.specs.declared.fault.ScriptFault.{ScriptFault}
use Rattle.script.specs.declared.number.Whole.{Whole}
use Rattle.script.specs.declared.event.ChoiceForm.{ChoiceForm}
use Rattle.script.specs.declared.event.ChoiceForm.TheVariants as chosen
use Rattle.script.specs.declared.event.EventForm.{EventForm}
use Rattle.script.specs.declared.event.EventForm.TheVariants as form
use Rattle.script.specs.Faults.{at_item, form_then_ranges}
use Rattle.script.specs.Lists.{of_list}
use Rattle.script.specs.Numbers.{whole_of, between}
use Rattle.script.specs.Entries.{◌>>=◌}

-- An event that has a word and one number.
abbrev pub event_of_number : List ℕ → Whole → Option EventForm
event_of_number w n =
    if bytes_eq w (codes "step") then Some (form.Step n)
    else if bytes_eq w (codes "take") then Some (form.Take n)
    else if bytes_eq w (codes "issue") then Some (form.Issue n)
    else if bytes_eq w (codes "finish") then Some (form.Finish n chosen.Full)
    else if bytes_eq w (codes "expire") then Some (form.Expire n)
    else if bytes_eq w (codes "tick") then Some (form.Tick n)
    else None

-- A choice by its word and the items after it. A full success has no word.
abbrev pub choice_by : List ℕ → List Data → Option ChoiceForm
choice_by w [] = if bytes_eq w (codes "eio") then Some chosen.Eio else None
choice_by w (d ∷ []) = if bytes_eq w (codes "short") then option_map chosen.Short (whole_of d) else None
choice_by w (d ∷ e ∷ ds) = None

-- A choice by its list of words and numbers.
abbrev pub choice_words : List Data → Option ChoiceForm
choice_words (string w ∷ ds) = choice_by w ds
choice_words _ = None

-- An event by its word and the items after it.
abbrev pub event_by : List ℕ → List Data → Option EventForm
event_by w [] = if bytes_eq w (codes "sleep") then Some form.Sleep else None
event_by w (d ∷ []) = whole_of d >>= event_of_number w
event_by w (d ∷ e ∷ ds) = if bytes_eq w (codes "finish") then (whole_of d >>= λ row. option_map (form.Finish row) (choice_words (e ∷ ds))) else None

-- An event by its list of words and numbers.
abbrev pub event_words : List Data → Option EventForm
event_words (string w ∷ ds) = event_by w ds
event_words _ = None

-- An event in a JSON value, without range checks.
abbrev pub event_form : Data → Option EventForm
event_form d = of_list event_words d

-- The choice, if a short transfer has at least one byte.
abbrev pub choice_in_range : ChoiceForm → Option Choice
choice_in_range chosen.Full = Some Full
choice_in_range (chosen.Short n) = option_map Short (between 1 4294967295 n)
choice_in_range chosen.Eio = Some Eio

-- The event, if its numbers are in their ranges.
abbrev pub event_in_range : EventForm → Option Event
event_in_range (form.Step n) = option_map Step (between 0 4294967295 n)
event_in_range (form.Take n) = option_map Take (between 0 4294967295 n)
event_in_range form.Sleep = Some Sleep
event_in_range (form.Issue n) = option_map Issue (between 0 4294967295 n)
event_in_range (form.Finish n c) = between 0 4294967295 n >>= λ row. option_map (Finish row) (choice_in_range c)
event_in_range (form.Expire n) = option_map Expire (between 0 4294967295 n)
event_in_range (form.Tick n) = option_map Tick (between 0 18446744073709551615 n)

-- Event i of the schedule.
abbrev pub event_at : ℕ → Data → Result Event ScriptFault
event_at i d = form_then_ranges (at_item key.Schedule i) (event_form d) event_in_range
