-- The cause of each refusal, independent of other causes. If an event has several, the smallest
-- number is reported.
use Rattle.std.specs.Prelude.{ℕ, ◌+◌, ◌-◌, ◌^◌, ◌==◌, Bool, true, false, not, ◌&&◌, ◌||◌, nat_lt, nat_le, if◌then◌else◌, Option, None, is_none, slice_get, length}
use Rattle.machine.specs.Common.{Row, is_issued, is_queued, waiting, Ready, Waiting, option_map_or, option_and_then, is_held_by, outcome_of, Stage, Event, Choice, Full, Short, Eio, is_cancel, is_timer, Res, Waits, BadChoice, Step, Take, Sleep, Issue, Finish, Expire, Tick, Refusal, Instruction, Push, Enter, Reap, is_eligible, Outcome, is_due}
use Rattle.machine.specs.Submission.{offered}
use Rattle.machine.specs.Threads.{ThreadState}
use Rattle.machine.specs.Steps.{before_submission, is_busy, is_unknown, ready_count}
use Rattle.machine.specs.Whole.{is_asleep}
use Rattle.machine.specs.declared.whole.Machine.{Machine}
use Rattle.scenario.specs.declared.event.Refusal.TheVariants.{NoSuchThread, ThreadDone, SqFull, NothingToReap, StillWaiting, NoSuchRequest, WrongPhase, NotEligible, NotReady, NotDue, BadChoice as IsBadChoice, NoPoller, Asleep, NotIdle, ClockFull, RequestsFull, Memory}

-- The number of a refusal.
abbrev pub number_of : Refusal → ℕ
number_of NoSuchThread = 1
number_of ThreadDone = 2
number_of SqFull = 3
number_of NothingToReap = 4
number_of StillWaiting = 5
number_of NoSuchRequest = 6
number_of WrongPhase = 7
number_of NotEligible = 8
number_of NotReady = 9
number_of NotDue = 10
number_of IsBadChoice = 11
number_of NoPoller = 12
number_of Asleep = 13
number_of NotIdle = 14
number_of ClockFull = 15
number_of RequestsFull = 16
number_of Memory = 17

-- ---- Threads

-- Whether the thread is at the end of its program.
abbrev pub is_at_end : ThreadState → Bool
is_at_end x = nat_le (length x.program) x.counter

-- The instruction that a thread executes next: none while it waits.
abbrev pub executes : Stage → Option Instruction → Option Instruction
executes Ready i = i
executes (Waiting n w) i = None

-- The instruction that thread t executes next.
abbrev pub instruction_at : Machine → ℕ → Option Instruction
instruction_at m t =
    option_and_then (λ x. executes x.stage (slice_get x.program x.counter)) (slice_get m.threads t)

abbrev pub is_push : Instruction → Bool
is_push (Push index) = true
is_push i = false

abbrev pub is_reap : Instruction → Bool
is_reap Reap = true
is_reap i = false

-- Whether the thread waits for more completions than the ring has.
abbrev pub waits_still : Machine → Stage → Bool
waits_still m Ready = false
waits_still m (Waiting n w) = nat_lt (ready_count m) w

-- ---- Submissions

-- Whether a submission of at most k entries might exceed 65,536 requests. A flush doesn't change
-- this.
abbrev pub exceeds_rows : Machine → ℕ → Bool
exceeds_rows m k = nat_lt 65536 (length m.table + length (offered m.submissions k))

-- Whether an Enter submits: there is no poller, its flags are known (else EINVAL), and no
-- completion overflows after the flush (else EBUSY).
abbrev pub runs_submission : Machine → ℕ → ℕ → Bool
runs_submission m k flags =
    is_none m.poller && (not (is_unknown flags) && not (is_busy (before_submission m k flags) k))

-- Whether an instruction makes a submission that is too large.
abbrev pub submits_too_many : Machine → Instruction → Bool
submits_too_many m (Enter to_submit min_complete flags) =
    runs_submission m to_submit flags && exceeds_rows m to_submit
submits_too_many m i = false

-- ---- Completions

abbrev pub is_in_full : Choice → Bool
is_in_full Full = true
is_in_full (Short n) = false
is_in_full Eio = false

abbrev pub is_waits : Outcome → Bool
is_waits (Res res) = false
is_waits Waits = true
is_waits BadChoice = false

abbrev pub is_bad_choice : Outcome → Bool
is_bad_choice (Res res) = false
is_bad_choice Waits = false
is_bad_choice BadChoice = true

-- Whether the request's object isn't ready. A cancellation or a removal never waits.
abbrev pub is_unready : Machine → Choice → Row → Bool
is_unready m c row =
    not (is_cancel row.entry.opcode) && is_waits (outcome_of (is_held_by m.table) m.world row c)

-- Whether the choice doesn't fit the request. A cancellation or a removal can only complete in
-- full.
abbrev pub cannot_end : Machine → Choice → Row → Bool
cannot_end m c row =
    if is_cancel row.entry.opcode then not (is_in_full c)
    else is_bad_choice (outcome_of (is_held_by m.table) m.world row c)

-- ---- The causes

-- Whether an event has the cause of a refusal, whatever other causes it has. An event without such
-- a thread or request has no cause that depends on it. A request without a deadline never expires,
-- and a Take may be too large whatever the poller's stage. Running out of memory has no cause in
-- the machine.
abbrev pub has_cause : Machine → Event → Refusal → Bool
has_cause m (Step t) NoSuchThread = is_none (slice_get m.threads t)
has_cause m (Step t) ThreadDone = option_map_or is_at_end (slice_get m.threads t) false
has_cause m (Step t) SqFull =
    option_map_or is_push (instruction_at m t) false
    && (waiting m.submissions.head m.submissions.tail == length m.submissions.array)
has_cause m (Step t) NothingToReap =
    option_map_or is_reap (instruction_at m t) false && (ready_count m == 0)
has_cause m (Step t) StillWaiting =
    option_map_or (λ x. waits_still m x.stage) (slice_get m.threads t) false
has_cause m (Issue r) NoSuchRequest = is_none (slice_get m.table r)
has_cause m (Finish r c) NoSuchRequest = is_none (slice_get m.table r)
has_cause m (Expire r) NoSuchRequest = is_none (slice_get m.table r)
has_cause m (Issue r) WrongPhase =
    option_map_or (λ row. not (is_queued row.phase)) (slice_get m.table r) false
has_cause m (Finish r c) WrongPhase =
    option_map_or (λ row. not (is_issued row.phase) || is_timer row.entry.opcode)
    (slice_get m.table r) false
has_cause m (Expire r) WrongPhase =
    option_map_or (λ row. not (is_issued row.phase) || not (is_timer row.entry.opcode))
    (slice_get m.table r) false
has_cause m (Issue r) NotEligible =
    option_map_or (λ row. is_queued row.phase && not (is_eligible m.table r)) (slice_get m.table r)
    false
has_cause m (Finish r c) NotReady = option_map_or (is_unready m c) (slice_get m.table r) false
has_cause m (Expire r) NotDue =
    option_map_or (λ row. not (is_due m.clock row)) (slice_get m.table r) false
has_cause m (Finish r c) IsBadChoice = option_map_or (cannot_end m c) (slice_get m.table r) false
has_cause m (Take n) NoPoller = is_none m.poller
has_cause m Sleep NoPoller = is_none m.poller
has_cause m (Take n) Asleep = is_asleep m.poller
has_cause m Sleep Asleep = is_asleep m.poller
has_cause m Sleep NotIdle = not (waiting m.submissions.head m.submissions.tail == 0)
has_cause m (Tick d) ClockFull = nat_lt (2 ^ 64 - 1) (m.clock + d)
has_cause m (Step t) RequestsFull = option_map_or (submits_too_many m) (instruction_at m t) false
has_cause m (Take n) RequestsFull = exceeds_rows m n
has_cause m e n = false
