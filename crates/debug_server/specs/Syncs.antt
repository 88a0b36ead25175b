-- The first difference between a run and a source's trace, and the first refused event.
use Rattle.std.specs.Prelude.{◌≡◌, ◌≢◌, ℕ, ◌+◌, ◌<◌, ◌==◌, ◌&&◌, List, [], ◌∷◌, take, slice_get, Bool, true, false, if◌then◌else◌, Option, Some, None, is_some}
use Rattle.entries.specs.declared.choice.Choice.{Choice}
use Rattle.entries.specs.declared.choice.Choice.TheVariants.{Full, Short, Eio}
use Rattle.scenario.specs.declared.event.Event.{Event}
use Rattle.scenario.specs.declared.event.Event.TheVariants.{Step, Take, Sleep, Issue, Finish, Expire, Tick}
use Rattle.scenario.specs.declared.event.Refusal.{Refusal}
use Rattle.machine.specs.declared.whole.Machine.{Machine}
use Rattle.machine.specs.Steps.{refusal, after}
use Rattle.machine.specs.Runs.{run, Accepts}

abbrev pub same_choice : Choice → Choice → Bool
same_choice Full Full = true
same_choice (Short a) (Short b) = a == b
same_choice Eio Eio = true
same_choice _ _ = false

abbrev pub same_event : Event → Event → Bool
same_event (Step a) (Step b) = a == b
same_event (Take a) (Take b) = a == b
same_event Sleep Sleep = true
same_event (Issue a) (Issue b) = a == b
same_event (Finish a c) (Finish b d) = (a == b) && same_choice c d
same_event (Expire a) (Expire b) = a == b
same_event (Tick a) (Tick b) = a == b
same_event _ _ = false

-- The first index at which the events differ from the others, or at which the others end. Indexes
-- are counted from i.
unfoldable pub torn_from : ℕ → List Event → List Event → Option ℕ
torn_from i [] fs = None
torn_from i (e ∷ es) [] = Some i
torn_from i (e ∷ es) (f ∷ fs) = if same_event e f then torn_from (i + 1) es fs else Some i

-- The index of the first event that is refused, counted from i.
unfoldable pub refused_from : ℕ → Machine → List Event → Option ℕ
refused_from i m [] = None
refused_from i m (e ∷ es) = if is_some (refusal m e) then Some i else refused_from (i + 1) (after m e) es

-- ---- The same as propositions

-- The event at this index is the first that the other list doesn't have at the same index: it has
-- another event there, or none.
pub record IsTorn (events others : List Event) (index : ℕ) : Type 0 where
  pub event : Event
  pub there : slice_get events index ≡ Some event
  pub same : (i : ℕ) → i < index → slice_get events i ≡ slice_get others i
  pub differs : slice_get others index ≢ Some event

-- The event at this index is the first that is refused; those before it are accepted.
pub record IsFirstRefused (start : Machine) (events : List Event) (index : ℕ) : Type 0 where
  pub event : Event
  pub there : slice_get events index ≡ Some event
  pub runs : Accepts start (take index events)
  pub reason : Refusal
  pub refused : refusal (run start (take index events)) event ≡ Some reason
