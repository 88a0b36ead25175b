-- What an event does, once it is decided.
use Rattle.std.specs.Prelude.{◌≡◌, ℕ, pos, ◌+◌, true, false, is_some, None, Some, slice_get}
use Rattle.machine.specs.Common.{Row, is_ended, Ready, Waiting, option_map_or, is_held_by, outcome_of, Stage, Event, Choice, Res, Step, Issue, Expire, Tick, Asleep, Does}
use Rattle.machine.specs.Steps.{after, answered, cancelled, executed, expired, finished_as, issued, next_of, refusal, submission_refusal, submitted, with_poller}
use Rattle.machine.specs.Threads.{ThreadState}
use Rattle.machine.specs.declared.planning.Plan.{Plan}
use Rattle.machine.specs.declared.planning.Plan.TheVariants.{Execute, Return, Submit, Rest, Start, Cancel, Complete, TimeOut, Advance}
use Rattle.machine.specs.declared.whole.Machine.{Machine}

-- The machine after a plan was carried out.
abbrev pub planned : Machine → Plan → Machine
planned m (Execute t) = executed m t (next_of (slice_get m.threads t))
planned m (Return t n) = answered m t (pos n)
planned m (Submit n) = submitted m n
planned m Rest = with_poller m Asleep
planned m (Start r) = issued m r (slice_get m.table r)
planned m (Cancel r) =
    option_map_or (λ (row : Row). cancelled m r row.entry) (slice_get m.table r) m
planned m (Complete r res effect) =
    option_map_or (λ (row : Row). finished_as m r row (Res res)) (slice_get m.table r) m
planned m (TimeOut r) = expired m r (slice_get m.table r)
planned m (Advance d) = record m { clock = m.clock + d }

-- Request r hasn't completed.
pub record IsOpen (m : Machine) (r : ℕ) : Type 0 where
  pub row : Row
  pub there : slice_get m.table r ≡ Some row
  pub unfinished : is_ended row.phase ≡ false

-- Thread t, in this stage, can step.
pub record IsNext (m : Machine) (t : ℕ) (stage : Stage) : Type 0 where
  pub accepted : refusal m (Step t) ≡ None
  pub thread : ThreadState
  pub there : slice_get m.threads t ≡ Some thread
  pub in_stage : thread.stage ≡ stage

-- What a plan requires of the machine. A completion's result is an outcome of the request, and its
-- effect is what the request does.
abbrev pub CanDo : Machine → Plan → Type 0
CanDo m (Execute t) = IsNext m t Ready
CanDo m (Return t n) = (w : ℕ) × IsNext m t (Waiting n w)
CanDo m (Submit n) = submission_refusal m n ≡ None
CanDo m Rest = is_some m.poller ≡ true
CanDo m (Start r) = refusal m (Issue r) ≡ None
CanDo m (Cancel r) = IsOpen m r
CanDo m (Complete r res effect) =
    (o : IsOpen m r) × (c : Choice) × (outcome_of (is_held_by m.table) m.world o.row c ≡ Res res)
    × Does m.world o.row res effect
CanDo m (TimeOut r) = refusal m (Expire r) ≡ None
CanDo m (Advance d) = refusal m (Tick d) ≡ None

-- The event is accepted, and the plan does what it does.
pub record Plans (m : Machine) (e : Event) (p : Plan) : Type 0 where
  pub accepted : refusal m e ≡ None
  pub can : CanDo m p
  pub same : planned m p ≡ after m e
