-- What findings point at.
use Rattle.std.specs.Prelude.{◌≡◌, ℕ, ◌-◌, Bool, true, false, if◌then◌else◌}
use Rattle.finding_kinds.specs.Kinds.{is_of_thread}
use Rattle.finding_kinds.specs.declared.kind.Kind.TheVariants.{Lasting}
use Rattle.explanations.specs.Common.{Finding, Kind}
use Rattle.explanations.specs.declared.subjects.Subject.{Subject}
use Rattle.explanations.specs.declared.subjects.Subject.TheVariants.{Instruction, Event}

-- Whether a kind of finding is a condition that lasts to the end. The event at its moment has nothing
-- to do with it.
abbrev pub lasts : Kind → Bool
lasts (Lasting kind) = true
lasts kind = false

-- The moment of the event that a finding points at: for a condition that lasts the event by which it
-- began, else the event at its own moment.
abbrev pub event_moment : Kind → ℕ → ℕ
event_moment kind moment = if lasts kind then moment - 1 else moment

-- A finding points at that event, or at an instruction: if it is about a thread, at one of that
-- thread.
abbrev pub IsSubject : Finding → Subject → Type 0
IsSubject f (Event moment) = moment ≡ event_moment f.kind f.moment
IsSubject f (Instruction step) = is_of_thread f.kind ≡ true → step.thread ≡ f.subject
