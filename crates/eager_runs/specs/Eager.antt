-- The eager run of a script: the steps, takes and ticks of its schedule, and after each all that
-- kernel workers can do by then.
use Rattle.std.specs.Prelude.{◌≡◌, ℕ, Bool, true, false, nat_lt, nat_eq, ◌&&◌, not, List, [], ◌∷◌, ◌++◌, take, length, ◌⊎◌, Option, Some, None, slice_get, if◌then◌else◌}
use Rattle.places.specs.declared.place.Place.TheVariants.{ProgramCounter, ThreadStage}
use Rattle.places.specs.declared.value.Stage.TheVariants.{Waiting}
use Rattle.places.specs.declared.value.Value.{Value}
use Rattle.places.specs.declared.value.Value.TheVariants.{Number, Staged}
use Rattle.scenario.specs.declared.setup.Setup.{Setup}
use Rattle.scenario.specs.declared.event.Event.{Event}
use Rattle.scenario.specs.declared.event.Event.TheVariants.{Step, Take, Tick}
use Rattle.scenario.specs.declared.event.Refusal.{Refusal}
use Rattle.scenario.specs.declared.event.Refusal.TheVariants as refusals
use Rattle.machine.specs.declared.whole.Machine.{Machine}
use Rattle.machine.specs.Runs.{start, run, Accepts}
use Rattle.machine.specs.Steps.{refusal, after}
use Rattle.machine.specs.Whole.{view}
use Rattle.live_rules.specs.Offers.{eager_offer}
use Rattle.prompt_order.specs.Prompt.{IsDue, NothingDue, begun_by}
use Rattle.eager_runs.specs.declared.eager.EagerFault.{EagerFault}
use Rattle.eager_runs.specs.declared.eager.EagerFault.TheVariants.{Refused, Memory}

-- ---- What is due

abbrev pub number_of : Option Value → ℕ
number_of (Some (Number n)) = n
number_of _ = 0

-- The index of a thread's next instruction.
abbrev pub counter : Machine → ℕ → ℕ
counter m t = number_of (view m (ProgramCounter t))

abbrev pub is_waiting : Option Value → Bool
is_waiting (Some (Staged (Waiting n w))) = true
is_waiting _ = false

-- Whether a thread waits in an enter.
abbrev pub waits : Machine → ℕ → Bool
waits m t = is_waiting (view m (ThreadStage t))

-- Whether a thread has made fewer steps in machine m than in the schedule's own, which is `plain`.
abbrev pub lags : Machine → Machine → ℕ → Bool
lags plain m t =
    if waits plain t then nat_eq (counter m t) (counter plain t) && not (waits m t)
    else nat_lt (counter m t) (counter plain t)

-- Whether an event of the schedule, after which its own machine is `plain`, is one of the eager
-- run. A thread doesn't wait there for what has completed.
abbrev pub is_due : Machine → Machine → Event → Bool
is_due plain m (Step t) = lags plain m t
is_due plain m (Take n) = true
is_due plain m (Tick d) = true
is_due plain m _ = false

-- ---- The run

-- The added events lead from machine m to machine n, and follow the events before them.
pub record Adds (m : Machine) (before added : List Event) (n : Machine) (events : List Event) : Type 0 where
  pub accepts : Accepts m added
  pub here : n ≡ run m added
  pub there : events ≡ before ++ added

-- The submission of the requests from number `from` on has ended, and a kernel worker does event e.
pub record IsOffered (m : Machine) (from : ℕ) (e : Event) (next : ℕ) : Type 0 where
  pub ended : NothingDue m from
  pub offered : eager_offer m ≡ Some e
  pub begun : next ≡ begun_by m e

-- What happens next at once: what the submission does, and then what kernel workers do.
abbrev pub IsNextWork : Machine → ℕ → Event → ℕ → Type 0
IsNextWork m from e next =
    ((r : ℕ) × IsDue m from r e × (next ≡ from)) ⊎ IsOffered m from e next

-- Nothing can happen at once: the submission has ended, and kernel workers have nothing to do.
pub record IsIdleAt (m : Machine) (from : ℕ) : Type 0 where
  pub ended : NothingDue m from
  pub none : eager_offer m ≡ None

-- The events are all that can happen at once, where the last submission is of the requests from
-- number `from` on.
abbrev pub IsWork : Machine → ℕ → List Event → Type 0
IsWork m from [] = IsIdleAt m from
IsWork m from (e ∷ es) = (next : ℕ) × IsNextWork m from e next × IsWork (after m e) next es

-- What the eager run makes for one event of the schedule: the event and all that can happen at once
-- after it, or nothing if the event isn't due. The requests that the event makes are submitted.
abbrev pub FollowsOne : Bool → Machine → Event → List Event → Type 0
FollowsOne false m e added = added ≡ []
FollowsOne true m e added =
    (work : List Event) × (added ≡ e ∷ work) × IsWork (after m e) (begun_by m e) work

-- The events follow a schedule from two machines: its own, and that of the eager run.
abbrev pub Follows : Machine → Machine → List Event → List Event → Type 0
Follows plain m [] events = events ≡ []
Follows plain m (e ∷ es) events =
    (added : List Event) × (rest : List Event) × (events ≡ added ++ rest)
    × FollowsOne (is_due (after plain e) m e) m e added
    × Follows (after plain e) (run m added) es rest

-- Why an event of the schedule is refused: its own machine refuses it, or the event is due and the
-- eager run's machine refuses it.
abbrev pub RefusesOne : Machine → Machine → Event → Refusal → Type 0
RefusesOne plain m e n =
    (refusal plain e ≡ Some n)
    ⊎ ((is_due (after plain e) m e ≡ true) × (refusal m e ≡ Some n))

-- From two machines the event at index i is refused. The run before it is accepted.
pub record Stops (plain m : Machine) (schedule : List Event) (i : ℕ) (n : Refusal) : Type 0 where
  pub made : List Event
  pub follows : Follows plain m (take i schedule) made
  pub accepts : Accepts m made
  pub event : Event
  pub there : slice_get schedule i ≡ Some event
  pub refused : RefusesOne (run plain (take i schedule)) (run m made) event n

-- The events are the eager run of a setup and a schedule.
abbrev pub IsEager : Setup → List Event → List Event → Type 0
IsEager setup schedule events = Follows (start setup) (start setup) schedule events

-- The eager run of a setup and a schedule ends early: the event at index i is refused.
abbrev pub IsRefusedEagerly : Setup → List Event → ℕ → Refusal → Type 0
IsRefusedEagerly setup schedule i n = Stops (start setup) (start setup) schedule i n

-- The fault of a schedule whose event at index i is refused.
abbrev pub fault_by : ℕ → Refusal → EagerFault
fault_by i refusals.Memory = Memory
fault_by i n = Refused i n
