-- How a picture shows the events of a part of a run, with the changes of each.
use Rattle.std.specs.Prelude.{◌≡◌, ℕ, zero, suc, ◌+◌, ◌++◌, nat_le, List, [], ◌∷◌, codes, length, map, take, slice_get, string_bytes, Bool, true, false, if◌then◌else◌, Some}
use Rattle.timeline.specs.Common.{utf8_lossy, Change, Exact, NamesOnce, Event, Setup, view, moment, event_text, Changed, EventRange, change_text, rows, IsListing, has, change_shown, change_texts, StepPart}

-- A line of trace events. Invalid UTF-8 is replaced by U+FFFD, and all after the first 400 bytes by
-- two dots.
abbrev pub shown_line : List ℕ → List ℕ
shown_line line =
    if nat_le (length line) 400 then utf8_lossy line
    else utf8_lossy (take 400 line) ++ codes ".."

-- Event i in the words of a schedule, with its changes, whole and as lines. They list each place of
-- its exact undo record once.
pub record IsStep (s : Setup) (es : List Event) (i : ℕ) (x : StepPart) : Type 0 where
  pub event : Event
  pub there : slice_get es i ≡ Some event
  pub words : string_bytes x.event ≡ event_text event
  pub past : List Change
  pub exact : Exact (view (moment s es i)) (view (moment s es (i + 1))) past
  pub once : NamesOnce past
  pub listed : List Changed
  pub listing : IsListing (view (moment s es (i + 1))) past listed
  pub changes : map change_texts x.changes.items ≡ map (change_shown s) (rows listed)
  pub lines : map (λ text. string_bytes text) x.lines.items
      ≡ map (λ row. shown_line (change_text s row)) (rows listed)

-- A list of the event, or an empty list if it isn't in the range.
abbrev pub StepsIf : Bool → Setup → List Event → ℕ → List StepPart → Type 0
StepsIf true s es i xs = (x : StepPart) × (xs ≡ x ∷ []) × IsStep s es i x
StepsIf false s es i xs = xs ≡ []

-- The events in the range, among the first n of the run, in order.
abbrev pub AreSteps : Setup → List Event → EventRange → ℕ → List StepPart → Type 0
AreSteps s es r zero xs = xs ≡ []
AreSteps s es r (suc n) xs =
    (before : List StepPart) × (last : List StepPart) × (xs ≡ before ++ last)
    × StepsIf (has r n) s es n last × AreSteps s es r n before
