-- Which runs `timeline` draws, and what a picture shows of them.
use Rattle.std.specs.Prelude.{◌≡◌, ℕ, ◌&&◌, ◌||◌, nat_lt, nat_eq, not, is_some, List, codes, length, Bool, true, false, if◌then◌else◌, Option, Some, None}
use Rattle.timeline.specs.Common.{ends_with, Event, Setup, start, Accepts, IsRefused, Scenario, Reads, IsUnread, Ended, Refused, Stopped, ReportFault, Script, Trace, Schedule, Write, Memory, EventRange, IsFollowed, IsReportOf, findings_in, HasOpened, Drawing, Bytes, TooLong, Picture, Page, TraceEvents, Window, Seen}
use Rattle.timeline.specs.Steps.{AreSteps}
use Rattle.runs.specs.declared.driving.Ended.TheVariants as ended
use Rattle.runs.specs.declared.reading.RunFault.TheVariants as unread

-- The format of a picture, by the name of its file.
abbrev pub picture_of : List ℕ → Option Picture
picture_of path =
    if ends_with nat_eq path (codes ".html") then Some Page
    else if ends_with nat_eq path (codes ".json") then Some TraceEvents else None

-- Whether a number of events is too large to be drawn without both ends of a window.
abbrev pub is_long : ℕ → Window → Bool
is_long count w = nat_lt 5000 count && (not (is_some w.from) || not (is_some w.to))

-- ---- one run

-- What a picture shows of a run, none of whose events is refused: its occupancy, the lifetimes of
-- its requests, the values at the first moment of a range, the events in the range with their
-- changes, and all findings.
pub record IsSeen (s : Setup) (es : List Event) (r : EventRange) (x : Seen) : Type 0 where
  pub runs : Accepts (start s) es
  pub followed : IsFollowed s es r.from x.followed
  pub values : HasOpened s es (length es) r.from x.values
  pub steps : AreSteps s es r (length es) x.steps.items
  pub findings : IsReportOf s es (findings_in x.findings.items)

-- The fault of a run that ends early.
abbrev pub fault_of : {E : Type 0} → Ended E → ReportFault
fault_of (Refused i n) = Schedule i n
fault_of ended.Memory = Memory
fault_of (Stopped x) = Memory

-- The first refused event of a run, or an allocation failure.
abbrev pub Stops : Setup → List Event → ReportFault → Type 0
Stops s es (Schedule i n) = IsRefused s es i n
Stops s es Memory = Unit {0}
Stops s es Write = ⊥
Stops s es (Script f) = ⊥
Stops s es (Trace f) = ⊥

-- The result of drawing a run. A run that is too long gives its number of events. Any other gives
-- the bytes of its picture, and none of its events is refused.
abbrev pub Draws : Setup → List Event → Window → Drawing → Type 0
Draws s es w (Bytes bytes) = (is_long (length es) w ≡ false) × Accepts (start s) es
Draws s es w (TooLong n) = (n ≡ length es) × (is_long (length es) w ≡ true)

-- ---- the run that bytes describe

abbrev pub DrawsRun : List ℕ → Window → Drawing → Type 0
DrawsRun bytes w d = (p : Scenario) × Reads bytes p × Draws p.setup p.schedule w d

-- Why bytes aren't drawn: they describe no run, an event of the run is refused, or an allocation
-- fails.
abbrev pub IsUndrawn : List ℕ → ReportFault → Type 0
IsUndrawn bytes (Script f) = IsUnread bytes (unread.Script f)
IsUndrawn bytes (Trace f) = IsUnread bytes (unread.Trace f)
IsUndrawn bytes (Schedule i n) = (p : Scenario) × Reads bytes p × IsRefused p.setup p.schedule i n
IsUndrawn bytes Memory = Unit {0}
IsUndrawn bytes Write = ⊥
