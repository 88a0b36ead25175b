-- The stop points of threads that an editor shows.
use Rattle.std.specs.Prelude.{ℕ, ◌+◌, ◌-◌, ◌==◌, ◌||◌, List, length, slice_get, filter, Bool, true, false, unwrap_or}
use Rattle.std.specs.List.{range_with_len}
use Rattle.std.specs.Option.{option_map_or}
use Rattle.scenario.specs.declared.event.Event.{Event}
use Rattle.scenario.specs.declared.event.Event.TheVariants as event
use Rattle.stops.specs.declared.steps.EditorThread.{EditorThread}
use Rattle.stops.specs.declared.steps.EditorThread.TheVariants.{Run, Thread, Poller, Kernel}
use Rattle.stops.specs.Nearest.{least_above, greatest_below}

-- Whether an event is a step of a thread.
abbrev pub is_event_of : EditorThread → Event → Bool
is_event_of Run e = true
is_event_of (Thread t) (event.Step u) = u == t
is_event_of Poller (event.Take n) = true
is_event_of Poller event.Sleep = true
is_event_of Kernel (event.Issue i) = true
is_event_of Kernel (event.Finish i choice) = true
is_event_of Kernel (event.Expire i) = true
is_event_of Kernel (event.Tick n) = true
is_event_of _ _ = false

-- Whether the event before a moment is a step of a thread.
abbrev pub is_after_step : List Event → EditorThread → ℕ → Bool
is_after_step es t m = option_map_or (is_event_of t) (slice_get es (m - 1)) false

-- Whether a moment is a stop point of a thread: the start, the end, or after one of its events.
abbrev pub is_stop_point : List Event → EditorThread → ℕ → Bool
is_stop_point es t m = (m == 0) || ((m == length es) || is_after_step es t m)

-- The stop points of a thread.
abbrev pub stop_points : List Event → EditorThread → List ℕ
stop_points es t = filter (is_stop_point es t) (range_with_len 0 (length es + 1))

-- The least one above a position, or the end.
unfoldable pub next_stop : List Event → EditorThread → ℕ → ℕ
next_stop es t at = unwrap_or (least_above (stop_points es t) at) (length es)

-- The greatest one below a position, or the start.
unfoldable pub previous_stop : List Event → EditorThread → ℕ → ℕ
previous_stop es t at = unwrap_or (greatest_below (stop_points es t) at) 0
