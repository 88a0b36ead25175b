-- The next event that each actor makes.
use Rattle.std.specs.Prelude.{ℕ, ◌-◌, ◌^◌, Bool, true, false, nat_lt, if◌then◌else◌, Option, Some, None, is_none, length}
use Rattle.entries.specs.declared.choice.Choice.TheVariants.{Full}
use Rattle.scenario.specs.declared.setup.Setup.{Setup}
use Rattle.scenario.specs.declared.event.Event.{Event}
use Rattle.scenario.specs.declared.event.Event.TheVariants.{Step, Take, Sleep, Issue, Finish, Expire, Tick}
use Rattle.scenario.specs.declared.event.Refusal.{Refusal}
use Rattle.scenario.specs.declared.event.Refusal.TheVariants.{NoSuchThread, ThreadDone, NotIdle}
use Rattle.machine.specs.declared.whole.Machine.{Machine}
use Rattle.machine.specs.Deadlines.{deadline_at}
use Rattle.machine.specs.Steps.{refusal}
use Rattle.live_rules.specs.Actors.{is_submitter, is_poller}
use Rattle.live_rules.specs.Least.{or_else, least, least_value}
use Rattle.live_rules.specs.declared.offering.Action.{Action}
use Rattle.live_rules.specs.declared.offering.Action.TheVariants.{Issuing, Finishing, Expiring}

-- ---- Submitters

-- Whether a thread has no more steps to make.
abbrev pub is_over : Option Refusal → Bool
is_over (Some NoSuchThread) = true
is_over (Some ThreadDone) = true
is_over _ = false

-- The next step of the thread, until its program is done.
abbrev pub submits : Machine → ℕ → Option Event
submits m t = if is_over (refusal m (Step t)) then None else Some (Step t)

-- ---- The poller

-- The poller sleeps if it may. If pending entries prevent that, it takes one entry.
abbrev pub polls_by : Option Refusal → Option Event
polls_by None = Some Sleep
polls_by (Some NotIdle) = Some (Take 1)
polls_by (Some n) = None

abbrev pub polls : Machine → Option Event
polls m = polls_by (refusal m Sleep)

-- ---- Kernel workers

-- The event that does `action` to request r.
abbrev pub event_on : Action → ℕ → Event
event_on Issuing r = Issue r
event_on Finishing r = Finish r Full
event_on Expiring r = Expire r

-- Whether the rules accept doing `action` to request r.
abbrev pub may_do : Machine → Action → ℕ → Bool
may_do m action r = is_none (refusal m (event_on action r))

-- The first request to which the action may be applied.
abbrev pub least_row : Machine → Action → Option ℕ
least_row m action = least (may_do m action) (length m.table)

abbrev pub on_row : Action → Option ℕ → Option Event
on_row action None = None
on_row action (Some r) = Some (event_on action r)

-- The least deadline of an issued request.
abbrev pub least_deadline : Machine → Option ℕ
least_deadline m = least_value (deadline_at m.table) (length m.table)

-- The tick that advances the clock to a deadline, if the deadline fits in 64 bits.
abbrev pub ticks_to : ℕ → Option ℕ → Option Event
ticks_to clock None = None
ticks_to clock (Some d) = if nat_lt d (2 ^ 64) then Some (Tick (d - clock)) else None

abbrev pub ticks : Machine → Option Event
ticks m = ticks_to m.clock (least_deadline m)

-- What a kernel worker does to issued requests. It finishes the first that may finish, or else
-- expires the first that is due, or else advances the clock to the least deadline.
abbrev pub ends : Machine → Option Event
ends m =
    or_else (on_row Finishing (least_row m Finishing))
    (or_else (on_row Expiring (least_row m Expiring)) (ticks m))

-- A kernel worker's next event: it issues the first request that may be issued, or else does what
-- `ends` says.
abbrev pub works : Machine → Option Event
works m = or_else (on_row Issuing (least_row m Issuing)) (ends m)

-- Whether an event advances the clock.
abbrev pub is_tick : Event → Bool
is_tick (Tick d) = true
is_tick event = false

-- The event, unless it advances the clock.
abbrev pub at_once : Option Event → Option Event
at_once None = None
at_once (Some event) = if is_tick event then None else Some event

-- What a kernel worker can do at once: its next event, unless that advances the clock.
abbrev pub eager_offer : Machine → Option Event
eager_offer m = at_once (works m)

-- ---- All actors

-- The next event of an actor, if it has one, by its kind.
abbrev pub offer_of : Setup → Machine → ℕ → Option Event
offer_of setup m actor =
    if is_submitter setup actor then submits m actor else if is_poller setup actor then polls m
    else works m

-- The next event of an actor, if it has one, out of `count` actors.
abbrev pub offer : Setup → ℕ → Machine → ℕ → Option Event
offer setup count m actor = if nat_lt actor count then offer_of setup m actor else None

-- Whether an event is one that kernel workers make.
abbrev pub is_of_worker : Event → Bool
is_of_worker (Issue r) = true
is_of_worker (Finish r c) = true
is_of_worker (Expire r) = true
is_of_worker (Tick d) = true
is_of_worker _ = false
