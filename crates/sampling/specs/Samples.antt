-- Random runs.
use Rattle.std.specs.Prelude.{◌≡◌, ℕ, ◌≤◌, ◌<◌, ◌⊎◌, Bool, true, false, Option, Some, None, List, [], ◌∷◌, ◌++◌, length}
use Rattle.places.specs.declared.value.Change.{Change}
use Rattle.scenario.specs.declared.event.Event.{Event}
use Rattle.scenario.specs.declared.setup.Setup.{Setup}
use Rattle.machine.specs.declared.whole.Machine.{Machine}
use Rattle.scenario.specs.declared.event.Event.TheVariants.{Step}
use Rattle.machine.specs.Steps.{refusal, after}
use Rattle.machine.specs.Runs.{start, run, Linked}
use Rattle.prompt_order.specs.Prompt.{IsDue, NothingDue, begun_by}
use Rattle.sampling.specs.declared.draws.SampleOptions.{SampleOptions}
use Rattle.sampling.specs.declared.draws.Source.{Source}
use Rattle.sampling.specs.Draws.{source_of}
use Rattle.sampling.specs.Choosing.{IsChosen, NoneChosen}

-- Any actor may act: the submission of the requests from number `from` on has ended, or the run may
-- be late.
abbrev pub IsFree : Source → Machine → ℕ → Type 0
IsFree s m from = (s.late ≡ true) ⊎ NothingDue m from

-- What the submission of the requests from number `from` on does, which continues.
pub record IsPromptChoice (s : Source) (m : Machine) (from : ℕ) (e : Event) (next : ℕ) : Type 0 where
  pub prompt : s.late ≡ false
  pub request : ℕ
  pub due : IsDue m from request e
  pub stays : next ≡ from

-- What the actor of the greatest rank does, which may begin the next submission.
pub record IsFreeChoice (s : Source) (m : Machine) (from : ℕ) (e : Event) (next : ℕ) : Type 0 where
  pub free : IsFree s m from
  pub chosen : IsChosen s m e
  pub begun : next ≡ begun_by m e

-- The event that comes next.
abbrev pub IsNext : Source → Machine → ℕ → Event → ℕ → Type 0
IsNext s m from e next = IsPromptChoice s m from e next ⊎ IsFreeChoice s m from e next

-- Each event is the next one at its moment. The submission is of the requests from number `from` on
-- before them, and from number `next` on after them.
abbrev pub AllNext : Source → Machine → ℕ → List Event → ℕ → Type 0
AllNext s m from [] next = from ≡ next
AllNext s m from (e ∷ es) next =
    (mid : ℕ) × IsNext s m from e mid × AllNext s (after m e) mid es next

-- No event comes next.
pub record IsEnd (s : Source) (m : Machine) (from : ℕ) : Type 0 where
  pub free : IsFree s m from
  pub none : NoneChosen s m

-- A run from the start of a program. It ends where no event comes next, or at the greatest length.
pub record IsRun (s : Source) (most : ℕ) (m : Machine) (from : ℕ) (events : List Event) : Type 0 where
  pub next : ℕ
  pub all : AllNext s m from events next
  pub within : length events ≤ most
  pub ends : length events < most → IsEnd s (run m events) next

-- Run `number` of a seed.
abbrev pub IsSample : Setup → SampleOptions → ℕ → ℕ → List Event → Type 0
IsSample setup options seed number events =
    IsRun (source_of options seed number) options.most (start setup) 0 events

-- The events of a run so far, from machine m to machine n, with their undo records. The last
-- submission is of the requests from number `next` on.
pub record IsBegun (s : Source) (most : ℕ) (m : Machine) (events : List Event) (next : ℕ) (records : List (List Change)) (n : Machine) : Type 0 where
  pub all : AllNext s m 0 events next
  pub within : length events ≤ most
  pub linked : Linked m events records n

-- A run begins with these events.
abbrev pub IsBegin : List Event → List Event → Type 0
IsBegin first es = (more : List Event) × (es ≡ first ++ more)

-- ---- the opening

-- Each run does this event next, whatever it draws.
abbrev pub IsForced : Bool → Machine → ℕ → Event → ℕ → Type 0
IsForced late m from e next = (s : Source) → s.late ≡ late → IsNext s m from e next

-- Each run of a program begins with these events, whatever its seed and number.
pub record IsOpening (setup : Setup) (options : SampleOptions) (events : List Event) (next : ℕ) : Type 0 where
  pub all : (seed number : ℕ)
      → AllNext (source_of options seed number) (start setup) 0 events next
  pub within : length events ≤ options.most

-- The thread that can do a step, if one below n can and no other.
abbrev pub SaysOnly : Machine → ℕ → Option ℕ → Type 0
SaysOnly m n None = (k : ℕ) → k < n → refusal m (Step k) ≡ None → ⊥
SaysOnly m n (Some t) =
    (refusal m (Step t) ≡ None) × ((k : ℕ) → k < n → refusal m (Step k) ≡ None → k ≡ t)

-- An event is the last one of a run, n events come before it, and machine m is the one after those.
pub record IsLast (s : Setup) (earlier : List Event) (records : List (List Change)) (events : List Event) (n : ℕ) (e : Event) (m : Machine) : Type 0 where
  pub last : events ≡ earlier ++ e ∷ []
  pub count : n ≡ length earlier
  pub most : length events ≤ 1048576
  pub linked : Linked (start s) earlier records m

-- ---- observers

-- What an observer has seen of a run, it has seen of each longer run too.
abbrev pub StaysSeen : {O : Type 0} → (O → Setup → List Event → ℕ → Type 0) → Setup → Type 0
StaysSeen seen s = (o : _) (es more : List Event) → length (es ++ more) ≤ 1048576
    → seen o s es (length es) → seen o s (es ++ more) (length es)
