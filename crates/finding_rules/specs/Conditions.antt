-- Findings about the rings and the threads: events, and conditions that last to the end of a run.
use Rattle.std.specs.Prelude.{◌≡◌, ℕ, ℤ, pos, ◌+◌, ◌≤◌, ◌==◌, Bool, true, false, not, ◌&&◌, ◌||◌, nat_lt, if◌then◌else◌, Option, Some, None, is_none, is_some, option_map, slice_get, length, option_and_then, bytes_eq}
use Rattle.finding_rules.specs.Common.{option_map_or, list_any, int_eq, FileState, content, durable_content, WorldState, waiting, OpenMark, Stage, Ready, Waiting, Event, Step, Refusal, SqFull, NothingToReap, Instruction, Put, Push, Enter, Reap, Close, Setup, has_flag, Machine, number_in, ready_count, ThreadState, view, StepKind, Busy, TakenShort, NoSuchSlot, SlotInUse, ClosedEarly, ClosedWhileHeld, RefusedFlags, ClosedTwice, Condition, Waits, LostWakeUp, NotTaken, NotReaped, Stuck, is_open, instruction_at}
use Rattle.model_files.specs.Worlds.{file_of}
use Rattle.finding_rules.specs.{Endings.is_error, Endings.is_less, Uses.is_held, Uses.is_named, Uses.is_pushed_last}

-- ---- rings (io_uring_setup(2), io_uring(7))

-- IORING_SQ_NEED_WAKEUP: the poller is asleep.
abbrev pub needs_wake_up : Machine → Bool
needs_wake_up m = has_flag m.submissions.flags 1

-- IORING_SQ_CQ_OVERFLOW: the backlog holds completions.
abbrev pub overflows : Machine → Bool
overflows m = has_flag m.submissions.flags 2

-- Whether entries wait in the submission ring.
abbrev pub has_entries : Machine → Bool
has_entries m = not (m.submissions.head == m.submissions.tail)

-- Whether completions wait in the completion ring.
abbrev pub has_completions : Machine → Bool
has_completions m = not (m.completions.head == m.completions.tail)

-- ---- threads

-- The program counter of the thread whose step the event is.
abbrev pub counter_of : Machine → Event → Option ℕ
counter_of m (Step t) = option_map (λ (x : ThreadState). x.counter) (slice_get m.threads t)
counter_of m e = None

-- The instruction that the event does, if it is a step of a thread.
abbrev pub done_by : Setup → Machine → Event → Option Instruction
done_by s m e = instruction_at s e (counter_of m e)

-- Whether a thread waits in its enter.
abbrev pub is_held_up : Stage → Bool
is_held_up Ready = false
is_held_up (Waiting submitted needed) = true

-- The result of a thread's last enter or close. None while the thread waits in its enter, since its
-- last result is that of an earlier call.
abbrev pub answer_of : Machine → ℕ → Option ℤ
answer_of m t = option_and_then (λ (x : ThreadState). if is_held_up x.stage then None else Some x.last) (slice_get m.threads t)

-- Whether the event is a step of thread n.
abbrev pub is_step_of : ℕ → Event → Bool
is_step_of n (Step t) = t == n
is_step_of n e = false

-- Whether the close that the thread has now done succeeded (close(2)).
abbrev pub has_closed : Machine → ℕ → Bool
has_closed m t = option_map_or (λ n. int_eq n (pos 0)) (answer_of m t) false

-- Whether the setup has a descriptor, open or closed.
abbrev pub has_descriptor : Machine → ℕ → Bool
has_descriptor m fd = is_some (view m (OpenMark fd))

-- Whether a step of thread t is a finding about it, by its instruction, whether it changed a slot,
-- and the machine after it (io_uring_enter(2), io_uring(7), close(2)):
--   Busy: an enter returned EBUSY.
--   TakenShort: an enter took fewer entries than requested, and returned no error.
--   RefusedFlags: an enter returned EINVAL, because of a flag other than IORING_ENTER_GETEVENTS and
--     IORING_ENTER_SQ_WAKEUP.
--   NoSuchSlot: the pushed index names no slot.
--   SlotInUse: a put changes an entry that is among the last 64 pushed and not yet taken.
--   ClosedEarly: a queued request uses the closed descriptor, or an entry that was pushed and not
--     yet taken. The close succeeded.
--   ClosedWhileHeld: an issued request holds the closed descriptor. The close succeeded.
--   ClosedTwice: a close of a descriptor of the setup returned EBADF.
abbrev pub is_of_step : StepKind → Bool → Instruction → Machine → ℕ → Bool
is_of_step Busy changes (Enter to_submit min_complete flags) m t = option_map_or (is_error 16) (answer_of m t) false
is_of_step TakenShort changes (Enter to_submit min_complete flags) m t = option_map_or (λ n. is_less n to_submit) (answer_of m t) false
is_of_step RefusedFlags changes (Enter to_submit min_complete flags) m t = option_map_or (is_error 22) (answer_of m t) false
is_of_step NoSuchSlot changes (Push index) m t = is_none (slice_get m.submissions.slots index)
is_of_step SlotInUse changes (Put slot entry) m t = changes && is_pushed_last m.submissions slot
is_of_step ClosedEarly changes (Close fd) m t = has_closed m t && option_map_or (is_named m) (number_in fd) false
is_of_step ClosedWhileHeld changes (Close fd) m t = has_closed m t && option_map_or (is_held m) (number_in fd) false
is_of_step ClosedTwice changes (Close fd) m t = option_map_or (is_error 9) (answer_of m t) false && option_map_or (has_descriptor m) (number_in fd) false
is_of_step kind changes x m t = false

-- Whether a thread of the setup waits in its enter.
abbrev pub waits : Setup → Machine → ℕ → Bool
waits s m t = nat_lt t (length s.threads) && option_map_or (λ (x : ThreadState). is_held_up x.stage) (slice_get m.threads t) false

-- Whether a thread waits in no enter.
abbrev pub is_ready : Machine → ℕ → Bool
is_ready m t = option_map_or (λ (x : ThreadState). not (is_held_up x.stage)) (slice_get m.threads t) false

-- Whether an instruction can't be done yet: a push while no word of the submission ring is free, or
-- a reap while the completion ring is empty (io_uring(7)).
abbrev pub is_blocked : Machine → Instruction → Bool
is_blocked m (Push index) = waiting m.submissions.head m.submissions.tail == length m.submissions.array
is_blocked m Reap = ready_count m == 0
is_blocked m x = false

-- Whether the state of a ring is why an event is refused.
abbrev pub is_of_ring : Option Refusal → Bool
is_of_ring (Some SqFull) = true
is_of_ring (Some NothingToReap) = true
is_of_ring o = false

-- Whether a thread of the setup is ready, and its next instruction can't be done yet. In a run that
-- is so exactly if a ring is why its next step is refused (`laws.rt`).
abbrev pub is_stuck : Setup → Machine → ℕ → Bool
is_stuck s m t = nat_lt t (length s.threads) && (option_map_or (is_blocked m) (done_by s m (Step t)) false && is_ready m t)

-- ---- conditions that last

-- Whether a condition holds that is a finding if it lasts to the end. The subject is 0 for the
-- rings, else a thread:
--   LostWakeUp: the poller is asleep, and entries wait.
--   NotTaken: entries wait, and no poller is asleep.
--   NotReaped: completions wait in the ring or in the backlog.
--   Waits: the thread waits in its enter.
--   Stuck: a push or a reap of the thread can't be done.
abbrev pub condition_holds : Setup → Condition → Machine → ℕ → Bool
condition_holds s LostWakeUp m n = (n == 0) && (needs_wake_up m && has_entries m)
condition_holds s NotTaken m n = (n == 0) && (not (needs_wake_up m) && has_entries m)
condition_holds s NotReaped m n = (n == 0) && (overflows m || has_completions m)
condition_holds s Waits m t = waits s m t
condition_holds s Stuck m t = is_stuck s m t

-- ---- the end

-- Whether nothing is left for a loop to handle: there were requests, all have completed, and
-- neither ring nor the backlog has anything.
abbrev pub is_idle : Machine → Bool
is_idle m =
    nat_lt 0 (length m.table) && not (list_any is_open m.table)
    && not (has_entries m || (overflows m || has_completions m))

-- Whether the contents of a file differ from its durable contents (fsync(2)).
abbrev pub is_unsynced : FileState → Bool
is_unsynced f = not (bytes_eq (content f) (durable_content f))

-- Whether an object is a file whose contents are not durable.
abbrev pub has_unsynced : WorldState → ℕ → Bool
has_unsynced w o = option_map_or is_unsynced (file_of w o) false

-- A condition has held at each moment from `since` to `now`, and not at the moment before `since`.
pub record Began (holds : ℕ → Bool) (now since : ℕ) : Type 0 where
  pub within : since ≤ now
  pub lasts : (k : ℕ) → since ≤ k → k ≤ now → holds k ≡ true
  pub first : (k : ℕ) → k + 1 ≡ since → holds k ≡ false
