-- What a thread does next.
use Rattle.std.specs.Prelude.{ℕ, ◌+◌, ◌-◌, List, [], ◌++◌, length, take, drop, slice_get, codes, decimal, if◌then◌else◌, nat_le, Option, Some, None, option_map}
use Rattle.std.specs.Fmt.{signed_decimal}
use Rattle.std.specs.List.{position}
use Rattle.std.specs.Option.{option_and_then, option_map_or}
use Rattle.places.specs.declared.place.Place.TheVariants.{ProgramCounter}
use Rattle.places.specs.declared.value.Value.{Value}
use Rattle.places.specs.declared.value.Value.TheVariants.{Number}
use Rattle.scenario.specs.declared.event.Event.{Event}
use Rattle.scenario.specs.declared.setup.Instruction.{Instruction}
use Rattle.scenario.specs.declared.setup.Instruction.TheVariants.{Put, Push, Store, Enter, Reap, Close}
use Rattle.scenario.specs.declared.setup.Setup.{Setup}
use Rattle.machine.specs.Whole.{view}
use Rattle.inverse_log.specs.Walks.{Walk, here}
use Rattle.script.specs.EventTexts.{event_text}
use Rattle.source_map.specs.declared.map.Item.{Item}
use Rattle.source_map.specs.declared.map.SourceMap.{SourceMap}
use Rattle.stops.specs.StopPoints.{is_event_of}
use Rattle.stops.specs.declared.steps.EditorThread.{EditorThread}
use Rattle.stops.specs.declared.steps.EditorThread.TheVariants.{Run, Thread, Poller, Kernel}
use Rattle.dap_views.specs.declared.frames.Frame.{Frame}
use Rattle.dap_views.specs.declared.frames.SourceRange.{SourceRange}

-- ---- Instructions

abbrev pub instruction_text : Instruction → List ℕ
instruction_text (Put slot entry) =
    codes "put " ++ (decimal slot ++ (codes " op " ++ decimal entry.opcode))
instruction_text (Push index) = codes "push " ++ decimal index
instruction_text (Store address bytes) = codes "store " ++ decimal address
instruction_text (Enter submit complete flags) =
    codes "enter " ++ (decimal submit ++ (codes " " ++ (decimal complete ++ (codes " "
    ++ decimal flags))))
instruction_text Reap = codes "reap"
instruction_text (Close fd) = codes "close " ++ signed_decimal fd

abbrev pub number_in : Option Value → Option ℕ
number_in (Some (Number n)) = Some n
number_in _ = None

-- The index of the next instruction of a thread, if there is such a thread.
abbrev pub counter_of : Walk → ℕ → Option ℕ
counter_of w t = number_in (view (here w) (ProgramCounter t))

abbrev pub instruction_at : Setup → ℕ → ℕ → Option Instruction
instruction_at s t i =
    option_and_then (λ (p : List Instruction). slice_get p i) (slice_get s.threads t)

-- The text of an instruction of a thread, or `end` after the last one.
abbrev pub instruction_name : Setup → ℕ → Option ℕ → List ℕ
instruction_name s t None = []
instruction_name s t (Some i) = option_map_or instruction_text (instruction_at s t i) (codes "end")

-- ---- Events

-- The index of the next event of a thread, among the 16,384 events after the position.
unfoldable pub next_event : List Event → EditorThread → ℕ → Option ℕ
next_event es t at = option_map (λ i. at + i) (position (is_event_of t) (take 16384 (drop at es)))

-- The name where none of these is the thread's. After them there may be one, unless the run ends.
abbrev pub no_event : List Event → ℕ → List ℕ
no_event es at =
    if nat_le (length es - at) 16384 then codes "no event" else codes "no event in the next 16384"

abbrev pub event_name : List Event → ℕ → Option ℕ → List ℕ
event_name es at index =
    option_map_or event_text (option_and_then (λ i. slice_get es i) index) (no_event es at)

-- ---- Places in the source

abbrev pub item_range : Item → SourceRange
item_range l = record { start = l.start; end = Some l.end }

-- The line of an event in the log: event 0 is on line 1.
abbrev pub line_range : ℕ → SourceRange
line_range i = record { start = record { line = i + 1; column = 1 }; end = None }

-- Where an event is: in the script, or without one on its line of the log.
abbrev pub event_range : Option SourceMap → Option ℕ → Option SourceRange
event_range m None = None
event_range None (Some i) = Some (line_range i)
event_range (Some m) (Some i) = option_map item_range (slice_get m.schedule i)

-- Where the next instruction of a thread is, or without a script the next event.
abbrev pub instruction_range : Option SourceMap → ℕ → Option ℕ → Option ℕ → Option SourceRange
instruction_range None t counter event = option_map line_range event
instruction_range (Some m) t None event = None
instruction_range (Some m) t (Some i) event =
    option_map item_range
    (option_and_then (λ (p : List Item). slice_get p i) (slice_get m.threads t))

-- ---- Frames

abbrev pub thread_frame : Walk → ℕ → Option SourceMap → Frame
thread_frame w t m = record {
  thread = Thread t;
  name = instruction_name w.setup t (counter_of w t);
  moment = w.at;
  range = instruction_range m t (counter_of w t) (next_event w.events (Thread t) w.at);
}

abbrev pub event_frame : Walk → EditorThread → Option SourceMap → Frame
event_frame w t m = record {
  thread = t;
  name = event_name w.events w.at (next_event w.events t w.at);
  moment = w.at;
  range = event_range m (next_event w.events t w.at);
}

-- The frame of an instruction of a thread, at the position. Without a script it has no source.
unfoldable pub frame_at : Walk → ℕ → ℕ → Option SourceMap → Frame
frame_at w t i m = record {
  thread = Thread t;
  name = instruction_name w.setup t (Some i);
  moment = w.at;
  range = instruction_range m t (Some i) None;
}

-- The frame of a thread at the position: its next instruction, or the next event of the others.
unfoldable pub frame_of : Walk → EditorThread → Option SourceMap → Frame
frame_of w (Thread t) m = thread_frame w t m
frame_of w Run m = event_frame w Run m
frame_of w Poller m = event_frame w Poller m
frame_of w Kernel m = event_frame w Kernel m
