-- Idle events, and machines that are over.
use Rattle.std.specs.Prelude.{◌≡◌, ◌≢◌, ◌⊎◌, ℕ, ◌+◌, ◌^◌, ◌≤◌, ◌<◌, Bool, Some, None}
use Rattle.std.specs.Bool.{MatchBool}
use Rattle.entries.specs.declared.choice.Choice.{Choice}
use Rattle.ring_words.specs.Rings.{waiting}
use Rattle.scenario.specs.declared.event.Event.{Event}
use Rattle.scenario.specs.declared.event.Event.TheVariants.{Step, Take, Sleep, Issue, Finish, Expire, Tick}
use Rattle.machine.specs.declared.whole.Machine.{Machine}
use Rattle.machine.specs.Deadlines.{deadline_at}
use Rattle.machine.specs.Steps.{refusal}

-- An event is idle: the poller falls asleep or takes no entry (io_uring_setup(2),
-- IORING_SETUP_SQPOLL), or time passes and reaches the deadline of no issued request. A deadline
-- that the clock has reached already doesn't count (io_uring_enter(2), IORING_OP_TIMEOUT).
abbrev pub IsIdle : Machine → Event → Type 0
IsIdle m Sleep = Unit {0}
IsIdle m (Take n) = (n ≡ 0) ⊎ (waiting m.submissions.head m.submissions.tail ≡ 0)
IsIdle m (Tick d) =
    (r t : ℕ) → deadline_at m.table r ≡ Some t → (t ≤ m.clock) ⊎ (m.clock + d < t)
IsIdle m (Step t) = ⊥
IsIdle m (Issue r) = ⊥
IsIdle m (Finish r c) = ⊥
IsIdle m (Expire r) = ⊥

-- A machine is over: each event that isn't idle is refused.
abbrev pub IsOver : Machine → Type 0
IsOver m = (e : Event) → refusal m e ≡ None → IsIdle m e

-- A Bool says whether a machine is over.
abbrev pub SaysOver : Bool → Machine → Type 0
SaysOver over m = MatchBool over (IsOver m) (IsOver m → ⊥)

-- An event is accepted, and isn't idle.
pub record IsActive (m : Machine) (e : Event) : Type 0 where
  pub accepted : refusal m e ≡ None
  pub busy : IsIdle m e → ⊥

-- ---- the parts of a machine

-- Each step of a thread is refused.
abbrev pub NoStep : Machine → Type 0
NoStep m = (t : ℕ) → refusal m (Step t) ≢ None

-- The poller can take no entry.
abbrev pub NoTake : Machine → Type 0
NoTake m = (n : ℕ) → refusal m (Take n) ≡ None → IsIdle m (Take n)

-- Request r can't be issued, finish or expire, and the clock can't reach a deadline that it has not
-- reached: there is none, or it is 2^64 nanoseconds or more.
pub record IsAtRest (m : Machine) (r : ℕ) : Type 0 where
  pub issue : refusal m (Issue r) ≢ None
  pub finish : (c : Choice) → refusal m (Finish r c) ≢ None
  pub expire : refusal m (Expire r) ≢ None
  pub deadline : (t : ℕ) → deadline_at m.table r ≡ Some t → (t ≤ m.clock) ⊎ (2 ^ 64 ≤ t)

-- All requests are at rest.
abbrev pub AllAtRest : Machine → Type 0
AllAtRest m = (r : ℕ) → IsAtRest m r
