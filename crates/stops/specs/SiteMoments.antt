-- The moments before the events that carry out an item of a script.
use Rattle.std.specs.Prelude.{ℕ, ◌==◌, ◌&&◌, List, length, slice_get, filter, Bool, false, Option, Some}
use Rattle.std.specs.List.{range_with_len}
use Rattle.std.specs.Option.{option_map_or}
use Rattle.places.specs.declared.place.Place.TheVariants.{ProgramCounter}
use Rattle.places.specs.declared.value.Value.{Value}
use Rattle.places.specs.declared.value.Value.TheVariants.{Number}
use Rattle.scenario.specs.declared.event.Event.{Event}
use Rattle.scenario.specs.declared.event.Event.TheVariants as event
use Rattle.machine.specs.Whole.{view}
use Rattle.machine.specs.Runs.{moment}
use Rattle.inverse_log.specs.Walks.{Walk}
use Rattle.stops.specs.declared.sites.Site.{Site}
use Rattle.stops.specs.declared.sites.Site.TheVariants as site

abbrev pub is_step : ℕ → Event → Bool
is_step t (event.Step u) = u == t
is_step t _ = false

abbrev pub is_number : ℕ → Option Value → Bool
is_number n (Some (Number k)) = k == n
is_number n _ = false

-- Whether the event after a moment carries out the item: it is that event, or it is a step of the
-- instruction's thread, whose program counter is at the instruction.
abbrev pub is_next : Walk → Site → ℕ → Bool
is_next w (site.Event i) m = m == i
is_next w (site.Instruction t k) m =
    option_map_or (is_step t) (slice_get w.events m) false
    && is_number k (view (moment w.setup w.events m) (ProgramCounter t))

-- Those moments.
abbrev pub moments_before : Walk → Site → List ℕ
moments_before w s = filter (is_next w s) (range_with_len 0 (length w.events))
