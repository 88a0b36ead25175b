-- Conditions that are findings if they last to the end, with the moment since when each holds.
use Rattle.std.specs.Prelude.{◌≡◌, ℕ, ◌==◌, Bool, true, false, if◌then◌else◌, Option, Some, None, List, [], ◌∷◌, ◌++◌, length, map, All}
use Rattle.findings.specs.Common.{Event, Step, Setup, Machine, Finding, Lasting, LastingKind, Condition, Waits, LostWakeUp, NotTaken, NotReaped, Stuck, Next, Watch}
use Rattle.finding_rules.specs.{AtEnd.reported_as, Conditions.condition_holds}
use Rattle.finding_rules.specs.declared.conditions.Next.TheVariants as next
pub use Rattle.finding_rules.specs.{NextSteps.blocks, NextSteps.is_waiting, NextSteps.next_at, NextSteps.next_of, NextSteps.thread_next, Numbers.numbers_below}

-- The thread whose step an event was, and what it does next by the machine after it.
abbrev pub moved_by : Setup → Event → Machine → Option (ℕ × Next)
moved_by s (Step t) m = Some (t, next_of s m t)
moved_by s e m = None

-- What the thread of a watched condition does next, after a thread moved on.
abbrev pub next_after : Option (ℕ × Next) → Watch → Next
next_after None w = w.next
next_after (Some p) w = if p.0 == w.subject then p.1 else w.next

-- That is right for each watched condition, by the machine after an event.
abbrev pub AreNext : Setup → Event → Machine → List Watch → Type 0
AreNext s e m ws = All (λ w. next_after (moved_by s e m) w ≡ next_of s m w.subject) ws

-- Since when a condition holds, given whether it holds at the next moment.
abbrev pub continued : Bool → Option ℕ → ℕ → Option ℕ
continued false since moment = None
continued true None moment = Some moment
continued true (Some i) moment = Some i

-- A condition updated for the next moment.
abbrev pub advanced : Setup → Machine → ℕ → Watch → Watch
advanced s m moment w = record w { next = next_of s m w.subject; since = continued (condition_holds s w.condition m w.subject) w.since moment }

-- A condition that has not held so far.
abbrev pub fresh : Condition → ℕ → Watch
fresh condition n = record { condition = condition; subject = n; next = next.Other; since = None }

-- The conditions of the rings, whose subject is 0.
abbrev pub of_rings : List Watch
of_rings = fresh LostWakeUp 0 ∷ fresh NotTaken 0 ∷ fresh NotReaped 0 ∷ []

-- A condition of each thread of a setup.
abbrev pub of_threads : Setup → Condition → List Watch
of_threads s condition = map (fresh condition) (numbers_below (length s.threads))

-- The conditions of a setup: of its rings and of each thread.
abbrev pub watched : Setup → List Watch
watched s = of_rings ++ of_threads s Waits ++ of_threads s Stuck

-- A finding of a kind about a condition that has held since a moment.
abbrev pub of_kind : ℕ → ℕ → Option LastingKind → List Finding
of_kind n i None = []
of_kind n i (Some kind) = record { moment = i; kind = Lasting kind; subject = n } ∷ []

-- The finding about a condition, if it holds at the end and is reported.
abbrev pub of_watch : Bool → Machine → Condition → ℕ → Option ℕ → List Finding
of_watch over m condition n None = []
of_watch over m condition n (Some i) = of_kind n i (reported_as condition over m)

-- The finding about a watched condition, by the machine at the end of the run. The Bool says whether
-- the run is over then.
abbrev pub of_lasting : Bool → Machine → Watch → List Finding
of_lasting over m w = of_watch over m w.condition w.subject w.since
