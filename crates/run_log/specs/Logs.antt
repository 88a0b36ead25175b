-- The output of a log.
use Rattle.std.specs.Prelude.{◌≡◌, ◌≤◌, ◌⊎◌, ℕ, zero, suc, List, [], ◌++◌, length, slice_get, take, Bool, true, false, Option, Some}
use Rattle.run_log.specs.Common.{Appends, Keeps, Change, View, Exact, NamesOnce, Event, Setup, Machine, view, after, start, moment, Accepts, IsRefused, Scenario, Changed, RunFault, of_reading, Reads, IsUnread, ReportFault, Script, Trace, Schedule, Write, Memory, EventRange}
use Rattle.run_log.specs.{Lines.event_lines, Listings.IsListing, Ranges.has}

-- ---- an event

-- The lines of an event, from its undo record and the values after it. They list each place of the
-- record once.
pub record Shows (s : Setup) (i : ℕ) (e : Event) (next_view : View) (past : List Change) (text : List ℕ) : Type 0 where
  pub once : NamesOnce past
  pub listed : List Changed
  pub listing : IsListing next_view past listed
  pub lines : text ≡ event_lines s i e listed

-- The lines of an event in a state. The record names exactly the places whose values change, with
-- their old values.
pub record Reports (s : Setup) (i : ℕ) (m : Machine) (e : Event) (text : List ℕ) : Type 0 where
  pub past : List Change
  pub exact : Exact (view m) (view (after m e)) past
  pub shows : Shows s i e (view (after m e)) past text

-- The lines of an event, or nothing if it isn't in the range.
abbrev pub ReportsIf : Bool → Setup → ℕ → Machine → Event → List ℕ → Type 0
ReportsIf true s i m e text = Reports s i m e text
ReportsIf false s i m e text = text ≡ []

-- ---- a run

-- The text of the first n events: the lines of each event in the range, in the state before it.
abbrev pub Logs : Setup → List Event → EventRange → ℕ → List ℕ → Type 0
Logs s es r zero text = text ≡ []
Logs s es r (suc n) text =
    (before : List ℕ) × (last : List ℕ) × (e : Event) × (text ≡ before ++ last)
    × (slice_get es n ≡ Some e) × ReportsIf (has r n) s n (moment s es n) e last × Logs s es r n before

-- The first n events ran, and their log was written.
pub record Written (s : Setup) (es : List Event) (r : EventRange) (n : ℕ) (held held' : Option (List ℕ)) : Type 0 where
  pub within : n ≤ length es
  pub runs : Accepts (start s) (take n es)
  pub text : List ℕ
  pub log : Logs s es r n text
  pub appended : Appends held held' text

-- The first n events ran, and a prefix of their log was written.
pub record Begun (s : Setup) (es : List Event) (r : EventRange) (n : ℕ) (held held' : Option (List ℕ)) : Type 0 where
  pub within : n ≤ length es
  pub runs : Accepts (start s) (take n es)
  pub front : List ℕ
  pub rest : List ℕ
  pub log : Logs s es r n (front ++ rest)
  pub appended : Appends held held' front

-- Where a log stopped. Before a refused event or a failed allocation, the log is complete. A failed
-- write leaves a prefix.
abbrev pub Stopped : Setup → List Event → EventRange → ReportFault → Option (List ℕ) → Option (List ℕ)
    → Type 0
Stopped s es r (Schedule i n) held held' = IsRefused s es i n × Written s es r i held held'
Stopped s es r Write held held' = (n : ℕ) × Begun s es r n held held'
Stopped s es r Memory held held' = (n : ℕ) × Written s es r n held held'
Stopped s es r (Script f) held held' = ⊥
Stopped s es r (Trace f) held held' = ⊥

-- ---- a script or a trace

-- The log of a whole run was written.
abbrev pub Logged : List ℕ → EventRange → Option (List ℕ) → Option (List ℕ) → Type 0
Logged bytes r held held' =
    (p : Scenario) × Reads bytes p × Written p.setup p.schedule r (length p.schedule) held held'

-- Why bytes aren't logged: they can't be read, so nothing was written, or the log stopped.
abbrev pub Unlogged : List ℕ → EventRange → ReportFault → Option (List ℕ) → Option (List ℕ) → Type 0
Unlogged bytes r f held held' =
    ((u : RunFault) × IsUnread bytes u × (f ≡ of_reading u) × Keeps held held')
    ⊎ ((p : Scenario) × Reads bytes p × Stopped p.setup p.schedule r f held held')
