-- Which events are refused, and how the others change the machine.
use Rattle.std.specs.Prelude.{◌≡◌, ℤ, pos, negsuc, ℕ, ◌+◌, ◌-◌, ◌%◌, ◌^◌, ◌==◌, Bool, false, not, ◌&&◌, ◌||◌, nat_lt, min, if◌then◌else◌, Option, Some, None, option_map, slice_get, slice_set, List, [], ◌∷◌, ◌++◌, length}
use Rattle.std.specs.Int.Bits.{bit_and}
use Rattle.machine.specs.Common.{Row, is_issued, is_queued, WorldState, descriptor_at, descriptor_of, world_closed, world_stored, waiting, with_flag, Ready, Waiting, option_map_or, is_held_by, is_running, outcome_of, Stage, Event, Choice, Full, Short, Eio, Sqe, has_flag, is_guard, is_cancel, is_timer, uses_descriptor, fits_end, Res, Waits, BadChoice, Step, Take, Sleep, Issue, Finish, Expire, Tick, Refusal, Instruction, Put, Push, Store, Enter, Reap, Close, Poller, Awake, Asleep, filter_map, Cqe, rows_of, direct_of, is_eligible, Ending, ecanceled, ended_by, DescriptorState, world_after, Outcome, is_awake, counted_in, fall_of, is_due}
use Rattle.entries.specs.declared.row.Phase.{Phase}
use Rattle.entries.specs.declared.row.Phase.TheVariants.{Queued, Issued, Ended}
use Rattle.places.specs.Lists.{updated}
use Rattle.ring_words.specs.declared.flag.RingFlag.TheVariants.{NeedWakeup}
use Rattle.overflow.specs.Backlogs.{Delivery, delivery_of, is_clear, all_posted, flushed as flushed_delivery}
use Rattle.links_drains.specs.Numbered.{map_numbered}
use Rattle.machine.specs.Cancels.{verdict_of, ending_with}
use Rattle.machine.specs.Submission.{offered, taken_words, taken_entries, einval, ebusy, ebadf, etime}
use Rattle.machine.specs.Threads.{ThreadState}
use Rattle.machine.specs.declared.whole.Machine.{Machine}
use Rattle.scenario.specs.declared.event.Refusal.TheVariants.{NoSuchThread, ThreadDone, SqFull, NothingToReap, StillWaiting, NoSuchRequest, WrongPhase, NotEligible, NotReady, NotDue, BadChoice as IsBadChoice, NoPoller, Asleep as IsAsleep, NotIdle, ClockFull, RequestsFull}

-- ---- Flags of Enter (io_uring_enter(2))

-- IORING_ENTER_GETEVENTS.
abbrev pub gets_events : ℕ → Bool
gets_events flags = not (bit_and flags 1 == 0)

-- IORING_ENTER_SQ_WAKEUP.
abbrev pub wakes : ℕ → Bool
wakes flags = not (bit_and flags 2 == 0)

-- Whether the flags have any other bit.
abbrev pub is_unknown : ℕ → Bool
is_unknown flags = nat_lt 3 flags

-- ---- Completions

-- The parts of the machine that receive completions.
abbrev pub delivery : Machine → Delivery
delivery m = delivery_of m.submissions m.completions m.backlog

-- The machine with other such parts.
abbrev pub with_delivery : Machine → Delivery → Machine
with_delivery m d =
    record m { submissions = d.submissions; completions = d.completions; backlog = d.backlog }

-- The machine after completions were posted.
abbrev pub posted : Machine → List Cqe → Machine
posted m new = with_delivery m (all_posted (delivery m) new)

-- The machine after overflowed completions moved into the ring, as many as fit.
abbrev pub flushed : Machine → Machine
flushed m = with_delivery m (flushed_delivery (delivery m))

-- How many completions are in the ring.
abbrev pub ready_count : Machine → ℕ
ready_count m = waiting m.completions.head m.completions.tail

-- ---- Refusals

-- Why a submission of at most k entries is refused.
abbrev pub submission_refusal : Machine → ℕ → Option Refusal
submission_refusal m k =
    if nat_lt 65536 (length m.table + length (offered m.submissions k)) then Some RequestsFull
    else None

-- The machine at the start of a submission. Overflowed completions have moved into the ring if the
-- caller waits for completions or submits entries.
abbrev pub before_submission : Machine → ℕ → ℕ → Machine
before_submission m k flags = if gets_events flags || nat_lt 0 k then flushed m else m

-- Whether overflowed completions prevent a submission (EBUSY).
abbrev pub is_busy : Machine → ℕ → Bool
is_busy m k = nat_lt 0 k && not (is_clear m.backlog)

-- Why an Enter without a poller is refused. It isn't if it submits nothing because completions
-- overflow.
abbrev pub alone_refusal : Machine → ℕ → ℕ → Option Refusal
alone_refusal m k flags =
    if is_busy (before_submission m k flags) k then None
    else submission_refusal (before_submission m k flags) k

-- Why an Enter is refused. With a poller it submits nothing, so it isn't.
abbrev pub enter_refusal : Machine → Option Poller → ℕ → ℕ → Option Refusal
enter_refusal m (Some p) k flags = None
enter_refusal m None k flags = if is_unknown flags then None else alone_refusal m k flags

-- Why an instruction is refused.
abbrev pub instruction_refusal : Machine → Instruction → Option Refusal
instruction_refusal m (Put slot entry) = None
instruction_refusal m (Push index) =
    if waiting m.submissions.head m.submissions.tail == length m.submissions.array then Some SqFull
    else None
instruction_refusal m (Store address bytes) = None
instruction_refusal m (Enter to_submit min_complete flags) =
    enter_refusal m m.poller to_submit flags
instruction_refusal m Reap = if ready_count m == 0 then Some NothingToReap else None
instruction_refusal m (Close fd) = None

-- Why a thread's step is refused. A thread that waits continues only when enough completions are in
-- the ring.
abbrev pub next_refusal : Machine → Stage → Option Instruction → Option Refusal
next_refusal m stage None = Some ThreadDone
next_refusal m Ready (Some i) = instruction_refusal m i
next_refusal m (Waiting n w) (Some i) = if nat_lt (ready_count m) w then Some StillWaiting else None

-- Why a thread cannot step.
abbrev pub thread_refusal : Machine → Option ThreadState → Option Refusal
thread_refusal m None = Some NoSuchThread
thread_refusal m (Some x) = next_refusal m x.stage (slice_get x.program x.counter)

-- Why the poller cannot submit: there is none, it is asleep, or there would be too many requests.
abbrev pub take_refusal : Machine → Option Poller → ℕ → Option Refusal
take_refusal m None n = Some NoPoller
take_refusal m (Some Asleep) n = Some IsAsleep
take_refusal m (Some Awake) n = submission_refusal m n

-- Why the poller cannot fall asleep: there is none, it is asleep, or the submission ring isn't
-- empty.
abbrev pub sleep_refusal : Machine → Option Poller → Option Refusal
sleep_refusal m None = Some NoPoller
sleep_refusal m (Some Asleep) = Some IsAsleep
sleep_refusal m (Some Awake) =
    if waiting m.submissions.head m.submissions.tail == 0 then None else Some NotIdle

-- Why a request in this phase cannot be issued. A queued one can be, unless it waits for others.
abbrev pub start_refusal : List Row → ℕ → Phase → Option Refusal
start_refusal rows r Queued = if is_eligible rows r then None else Some NotEligible
start_refusal rows r Issued = Some WrongPhase
start_refusal rows r (Ended res) = Some WrongPhase

-- Why request r cannot be issued.
abbrev pub issue_refusal : List Row → ℕ → Option Row → Option Refusal
issue_refusal rows r None = Some NoSuchRequest
issue_refusal rows r (Some row) = start_refusal rows r row.phase

-- Why a request cannot complete with this outcome.
abbrev pub outcome_refusal : Outcome → Option Refusal
outcome_refusal (Res res) = None
outcome_refusal Waits = Some NotReady
outcome_refusal BadChoice = Some IsBadChoice

-- A cancellation or a removal can only complete in full.
abbrev pub full_refusal : Choice → Option Refusal
full_refusal Full = None
full_refusal (Short n) = Some IsBadChoice
full_refusal Eio = Some IsBadChoice

-- Why an issued request cannot complete as chosen.
abbrev pub choice_refusal : (ℕ → Bool) → WorldState → Row → Choice → Option Refusal
choice_refusal held w row c =
    if is_cancel row.entry.opcode then full_refusal c else outcome_refusal (outcome_of held w row c)

-- The refusal if the request is issued; in any other phase, that it is the wrong one.
abbrev pub phase_refusal : Phase → Option Refusal → Option Refusal
phase_refusal Queued o = Some WrongPhase
phase_refusal Issued o = o
phase_refusal (Ended res) o = Some WrongPhase

-- Why a request cannot finish. Timers don't finish, they expire.
abbrev pub finish_refusal : (ℕ → Bool) → WorldState → Option Row → Choice → Option Refusal
finish_refusal held w None c = Some NoSuchRequest
finish_refusal held w (Some row) c =
    if is_timer row.entry.opcode then Some WrongPhase
    else phase_refusal row.phase (choice_refusal held w row c)

-- Why a request cannot expire. Only timers do, and not before their deadline.
abbrev pub expire_refusal : ℕ → Option Row → Option Refusal
expire_refusal now None = Some NoSuchRequest
expire_refusal now (Some row) =
    if is_timer row.entry.opcode
    then phase_refusal row.phase (if is_due now row then None else Some NotDue)
    else Some WrongPhase

-- Why an event is refused, if it is. Among several reasons, the one with the smallest number.
abbrev pub refusal : Machine → Event → Option Refusal
refusal m (Step t) = thread_refusal m (slice_get m.threads t)
refusal m (Take n) = take_refusal m m.poller n
refusal m Sleep = sleep_refusal m m.poller
refusal m (Issue r) = issue_refusal m.table r (slice_get m.table r)
refusal m (Finish r c) = finish_refusal (is_held_by m.table) m.world (slice_get m.table r) c
refusal m (Expire r) = expire_refusal m.clock (slice_get m.table r)
refusal m (Tick d) = if nat_lt (m.clock + d) (2 ^ 64) then None else Some ClockFull

-- ---- Changes

-- The completion of a request with this result.
abbrev pub completion_of : ℤ → Row → Cqe
completion_of res row = record { user_data = row.entry.user_data; res = res; flags = 0 }

-- The completions of the listed requests, in the order of the list.
abbrev pub completions_of : List Row → List Ending → List Cqe
completions_of rows es =
    filter_map (λ (e : Ending). option_map (completion_of e.1) (slice_get rows e.0)) es

-- The machine after the listed requests completed, each with its result. Their completions are
-- posted in the order of the list, and counted for TIMEOUTs.
abbrev pub all_ended : Machine → List Ending → Machine
all_ended m es = record (posted m (completions_of m.table es)) {
  table = map_numbered (ended_by es) m.table;
  counted = m.counted + counted_in m.table es;
}

-- The machine after the direct completions and their cascade.
unfoldable pub cascaded : Machine → List Ending → Machine
cascaded m direct = all_ended m (fall_of m.table m.counted direct)

-- The words that a submission consumes, and the entries that become requests.
abbrev pub words_for : Machine → ℕ → List ℕ
words_for m k = taken_words m.submit_all m.world m.submissions k

abbrev pub entries_for : Machine → ℕ → List Sqe
entries_for m k = taken_entries m.submit_all m.world m.submissions k

-- The machine after words of the ring were consumed, and their entries became requests. Words out
-- of range are counted as dropped.
abbrev pub taken : Machine → ℕ → Machine
taken m k = record m {
  submissions = record m.submissions {
    head = (m.submissions.head + length (words_for m k)) % 2 ^ 32;
    dropped = (m.submissions.dropped + (length (words_for m k) - length (entries_for m k))) % 2 ^ 32;
  };
  table = m.table ++ rows_of m.world (length m.table) (entries_for m k);
}

-- The machine after a submission. Invalid entries, and the other requests of their chains, have
-- completed.
abbrev pub submitted : Machine → ℕ → Machine
submitted m k = cascaded (taken m k) (direct_of m.world (length m.table) (entries_for m k))

-- The machine after a system call returned n to a thread.
abbrev pub answered : Machine → ℕ → ℤ → Machine
answered m t n = record m { threads = updated (λ x. record x { counter = x.counter + 1; last = n; stage = Ready }) m.threads t }

-- The machine after a thread advanced to its next instruction.
abbrev pub advanced : Machine → ℕ → Machine
advanced m t = record m { threads = updated (λ x. record x { counter = x.counter + 1 }) m.threads t }

-- The machine with a thread that waits in its Enter, which submitted n entries, for w completions.
abbrev pub held_back : Machine → ℕ → ℕ → ℕ → Machine
held_back m t n w =
    record m { threads = updated (λ x. record x { stage = Waiting n w }) m.threads t }

-- The machine after the poller fell asleep or was woken.
abbrev pub with_poller : Machine → Poller → Machine
with_poller m p = record m { poller = Some p; submissions = record m.submissions { flags = with_flag m.submissions.flags NeedWakeup (not (is_awake p)) } }

-- How many completions a thread waits for: at most the size of the ring.
abbrev pub needed : Machine → ℕ → ℕ
needed m min_complete = min min_complete (length m.completions.slots)

-- The machine after a thread's submission. The thread waits if it submitted all entries, waits for
-- completions (IORING_ENTER_GETEVENTS), and too few are in the ring. Otherwise its Enter returns.
abbrev pub awaited : Machine → ℕ → ℕ → ℕ → ℕ → ℕ → Machine
awaited m t submitted to_submit min_complete flags =
    if gets_events flags
    && ((submitted == to_submit) && nat_lt (ready_count m) (needed m min_complete))
    then held_back m t submitted (needed m min_complete)
    else answered m t (pos submitted)

-- The machine after the poller was woken, if the flags say so.
abbrev pub woken : Machine → ℕ → Machine
woken m flags = if wakes flags then with_poller m Awake else m

-- The machine after overflowed completions moved into the ring, if the caller waits for
-- completions.
abbrev pub shown : Machine → ℕ → Machine
shown m flags = if gets_events flags then flushed m else m

-- An Enter with a poller. It wakes the poller and moves overflowed completions into the ring, if
-- the flags say so.
abbrev pub entered_with_poller : Machine → ℕ → ℕ → ℕ → ℕ → Machine
entered_with_poller m t to_submit min_complete flags =
    awaited (shown (woken m flags) flags) t to_submit to_submit min_complete flags

-- An Enter that submits entries. While completions overflow it submits none (EBUSY).
abbrev pub submitting : Machine → ℕ → ℕ → ℕ → ℕ → Machine
submitting m t to_submit min_complete flags =
    if is_busy m to_submit then answered m t ebusy
    else awaited (submitted m to_submit) t (length (entries_for m to_submit)) to_submit min_complete
    flags

-- An Enter without a poller.
abbrev pub entered_without_poller : Machine → ℕ → ℕ → ℕ → ℕ → Machine
entered_without_poller m t to_submit min_complete flags =
    submitting (before_submission m to_submit flags) t to_submit min_complete flags

-- An Enter. Unknown flags return EINVAL.
abbrev pub entered : Machine → Option Poller → ℕ → ℕ → ℕ → ℕ → Machine
entered m None t to_submit min_complete flags =
    if is_unknown flags then answered m t einval else entered_without_poller m t to_submit min_complete flags
entered m (Some p) t to_submit min_complete flags =
    if is_unknown flags then answered m t einval
    else entered_with_poller m t to_submit min_complete flags

-- Whether there is a descriptor, and it is open.
abbrev pub is_open : Option DescriptorState → Bool
is_open None = false
is_open (Some d) = d.is_open

-- A Close of an open descriptor, or of none, which returns EBADF (close(2)).
abbrev pub closed : Machine → ℕ → ℤ → Machine
closed m t (negsuc n) = answered m t ebadf
closed m t (pos fd) =
    if is_open (descriptor_of m.world fd)
    then answered (record m { world = world_closed fd m.world }) t (pos 0)
    else answered m t ebadf

-- The machine after an instruction.
abbrev pub executed : Machine → ℕ → Option Instruction → Machine
executed m t None = m
executed m t (Some (Put slot entry)) = advanced (record m { submissions = record m.submissions { slots = slice_set m.submissions.slots slot entry } }) t
executed m t (Some (Push index)) = advanced (record m { submissions = record m.submissions { tail = (m.submissions.tail + 1) % 2 ^ 32; array = slice_set m.submissions.array (m.submissions.tail % length m.submissions.array) index } }) t
executed m t (Some (Store address bytes)) =
    advanced (record m { world = world_stored address bytes m.world }) t
executed m t (Some (Enter to_submit min_complete flags)) =
    entered m m.poller t to_submit min_complete flags
executed m t (Some Reap) = record m {
  completions = record m.completions { head = (m.completions.head + 1) % 2 ^ 32 };
  threads = updated (λ x. record x { counter = x.counter + 1; got = slice_get m.completions.slots (m.completions.head % length m.completions.slots) }) m.threads t;
}
executed m t (Some (Close fd)) = closed m t fd

-- The next instruction of a thread, if there is one.
abbrev pub next_of : Option ThreadState → Option Instruction
next_of None = None
next_of (Some x) = slice_get x.program x.counter

-- The machine after a thread's step: a ready thread executes its next instruction, and a waiting
-- one returns from Enter.
abbrev pub resumed : Machine → ℕ → Stage → Option Instruction → Machine
resumed m t Ready next = executed m t next
resumed m t (Waiting submitted needed) next = answered m t (pos submitted)

abbrev pub stepped : Machine → ℕ → Option ThreadState → Machine
stepped m t None = m
stepped m t (Some x) = resumed m t x.stage (slice_get x.program x.counter)

-- The descriptor number, if it isn't negative.
abbrev pub number_in : ℤ → Option ℕ
number_in (pos fd) = Some fd
number_in (negsuc n) = None

-- The descriptor that a request holds once it is issued.
abbrev pub held_by : Row → Option ℕ
held_by row = if uses_descriptor row.entry.opcode then number_in row.entry.fd else None

-- Whether the descriptor is open, and its end of the object fits the request.
abbrev pub is_usable : Row → Option DescriptorState → Bool
is_usable row None = false
is_usable row (Some d) = d.is_open && fits_end row.entry.opcode d.end

-- Whether the request needs a descriptor that isn't usable (EBADF).
abbrev pub lacks_descriptor : WorldState → Row → Bool
lacks_descriptor w row =
    uses_descriptor row.entry.opcode && not (is_usable row (descriptor_at w row.entry.fd))

-- The deadline of a request that is issued: relative to the clock, or absolute
-- (IORING_TIMEOUT_ABS).
abbrev pub deadline_of : ℕ → Row → Option ℕ
deadline_of clock row =
    option_map (λ t. if has_flag row.entry.operation_flags 1 then t else t + clock) row.time

-- The number of completions counted when a TIMEOUT is issued.
abbrev pub base_of : ℕ → Row → ℕ
base_of counted row = if row.entry.opcode == 11 then counted else row.base

-- A request after it was issued.
abbrev pub started : ℕ → ℕ → Row → Row
started clock counted row = record row { phase = Issued; held = held_by row; deadline = deadline_of clock row; base = base_of counted row }

-- Whether the request is the queued linked timeout of request r.
abbrev pub is_guard_of : ℕ → Row → Bool
is_guard_of r row =
    is_guard row && (is_queued row.phase && option_map_or (λ t. t == r) row.target false)

-- Request k, after request r was issued together with its queued linked timeout.
abbrev pub started_with : ℕ → ℕ → ℕ → ℕ → Row → Row
started_with clock counted r k row =
    if (k == r) || is_guard_of r row then started clock counted row else row

-- All requests after that.
abbrev pub all_started : ℕ → ℕ → List Row → ℕ → List Row
all_started clock counted rows r = map_numbered (started_with clock counted r) rows

-- The machine after a request was issued. Without a usable descriptor it completes instead.
abbrev pub issued : Machine → ℕ → Option Row → Machine
issued m r None = m
issued m r (Some row) =
    if lacks_descriptor m.world row then cascaded m ((r, ebadf) ∷ [])
    else record m { table = all_started m.clock m.counted m.table r }

-- Whether request t is issued, and waits.
abbrev pub waits_at : List Row → WorldState → ℕ → Bool
waits_at rows w t =
    option_map_or (λ (row : Row). is_issued row.phase && not (is_running w row)) (slice_get rows t)
    false

-- The target of a linked timeout, if it waits.
abbrev pub waiting_target : List Row → WorldState → Row → Option ℕ → Option ℕ
waiting_target rows w row None = None
waiting_target rows w row (Some t) = if is_guard row && waits_at rows w t then Some t else None

-- The direct completions when a timer expires: the timer, and its target if that waits.
abbrev pub expiring : ℕ → Option ℕ → List Ending
expiring r None = (r, etime) ∷ []
expiring r (Some t) = (t, ecanceled) ∷ (r, etime) ∷ []

-- The machine after a timer expired, and the cascade.
abbrev pub expired : Machine → ℕ → Option Row → Machine
expired m r None = m
expired m r (Some row) = cascaded m (expiring r (waiting_target m.table m.world row row.target))

-- The machine after a request had its effect and completed, and the cascade.
abbrev pub finished_as : Machine → ℕ → Row → Outcome → Machine
finished_as m r row (Res res) =
    cascaded (record m { world = world_after row res m.world }) ((r, res) ∷ [])
finished_as m r row Waits = m
finished_as m r row BadChoice = m

-- The machine after a cancellation or a removal, and the requests that it canceled.
abbrev pub cancelled : Machine → ℕ → Sqe → Machine
cancelled m r entry = cascaded m (ending_with r (verdict_of m.table m.world r entry))

-- The machine after request r completed as chosen, and the cascade.
abbrev pub finished : Machine → ℕ → Option Row → Choice → Machine
finished m r None c = m
finished m r (Some row) c =
    if is_cancel row.entry.opcode then cancelled m r row.entry
    else finished_as m r row (outcome_of (is_held_by m.table) m.world row c)

-- The machine after an event.
abbrev pub after : Machine → Event → Machine
after m (Step t) = stepped m t (slice_get m.threads t)
after m (Take n) = submitted m n
after m Sleep = with_poller m Asleep
after m (Issue r) = issued m r (slice_get m.table r)
after m (Finish r c) = finished m r (slice_get m.table r) c
after m (Expire r) = expired m r (slice_get m.table r)
after m (Tick d) = record m { clock = m.clock + d }

-- The event is accepted, and leads from `old` to `new`.
pub record Next (old : Machine) (e : Event) (new : Machine) : Type 0 where
  pub accepted : refusal old e ≡ None
  pub changed : new ≡ after old e
