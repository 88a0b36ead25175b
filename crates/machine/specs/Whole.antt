-- The whole machine: the values of its places, and the invariants of well-formed machines.
use Rattle.std.specs.Prelude.{◌≡◌, pos, ℕ, ◌+◌, ◌-◌, ◌*◌, ◌<◌, ◌≤◌, ◌^◌, Bool, true, false, not, if◌then◌else◌, Option, Some, None, is_some, IsSome, slice_get, map, List, length, FitsSigned}
use Rattle.machine.specs.Common.{Row, is_queued, is_issued, is_unfinished, counted_of, ended_of, SubWords, ComWords, waiting, sub_seen, sub_can_put, SubFormed, com_seen, com_can_put, ComFormed, Waiting, is_guard, Chained, is_timer, uses_descriptor, fits_end, BacklogState, is_clear, backlog_seen, backlog_can_put, View, named, undo, LeadsBack, Place, Enter, Poller, fixed_of, Stay, table_seen, table_can_put, DescriptorState, SubmissionHead, SubmissionTail, SubmissionFlags, SubmissionDropped, CompletionHead, CompletionTail, Array, Slot, Completion, MemoryByte, FileByte, DurableByte, FileLength, DurableLength, Position, OpenMark, PipeByte, PutCount, TakenCount, EventCount, Request, Backlog, BacklogFront, Clock, Counted, PollerStage, ProgramCounter, ThreadStage, Last, Got, Change, Value, is_awake, poller_seen, w64}
use Rattle.places.specs.declared.value.Value.TheVariants.{Number, Awake as IsAwake}
use Rattle.links_drains.specs.Counts.{is_met}
use Rattle.model_files.specs.Worlds.{WorldState, WorldFormed, world_seen, world_can_put, descriptor_of, OneSetup as OneWorldSetup, PutsWithin}
use Rattle.opcodes.specs.Check.{op_of}
use Rattle.scenario.specs.Programs.{IsProgram}
use Rattle.machine.specs.Threads.{ThreadState, program_of, threads_seen, threads_can_put}
use Rattle.machine.specs.declared.whole.Machine.{Machine}

-- The value of the poller's place, if there is a poller.
abbrev pub stage_of : Option Poller → Option Value
stage_of None = None
stage_of (Some p) = poller_seen p PollerStage

-- The value of each place, taken from the part that it belongs to.
abbrev pub view : Machine → View
view m SubmissionHead = sub_seen m.submissions SubmissionHead
view m SubmissionTail = sub_seen m.submissions SubmissionTail
view m SubmissionFlags = sub_seen m.submissions SubmissionFlags
view m SubmissionDropped = sub_seen m.submissions SubmissionDropped
view m (Array i) = sub_seen m.submissions (Array i)
view m (Slot i) = sub_seen m.submissions (Slot i)
view m CompletionHead = com_seen m.completions CompletionHead
view m CompletionTail = com_seen m.completions CompletionTail
view m (Completion i) = com_seen m.completions (Completion i)
view m (MemoryByte a) = world_seen m.world (MemoryByte a)
view m (FileByte o i) = world_seen m.world (FileByte o i)
view m (DurableByte o i) = world_seen m.world (DurableByte o i)
view m (FileLength o) = world_seen m.world (FileLength o)
view m (DurableLength o) = world_seen m.world (DurableLength o)
view m (Position fd) = world_seen m.world (Position fd)
view m (OpenMark fd) = world_seen m.world (OpenMark fd)
view m (PipeByte o i) = world_seen m.world (PipeByte o i)
view m (PutCount o) = world_seen m.world (PutCount o)
view m (TakenCount o) = world_seen m.world (TakenCount o)
view m (EventCount o) = world_seen m.world (EventCount o)
view m (Request i) = table_seen m.table (Request i)
view m (Backlog i) = backlog_seen m.backlog (Backlog i)
view m BacklogFront = backlog_seen m.backlog BacklogFront
view m Clock = Some (Number m.clock)
view m Counted = Some (Number m.counted)
view m PollerStage = stage_of m.poller
view m (ProgramCounter t) = threads_seen m.threads (ProgramCounter t)
view m (ThreadStage t) = threads_seen m.threads (ThreadStage t)
view m (Last t) = threads_seen m.threads (Last t)
view m (Got t) = threads_seen m.threads (Got t)

-- Whether a value may be written into a place.
abbrev pub can_put : Machine → Place → Option Value → Type 0
can_put m SubmissionHead v = sub_can_put m.submissions SubmissionHead v
can_put m SubmissionTail v = sub_can_put m.submissions SubmissionTail v
can_put m SubmissionFlags v = sub_can_put m.submissions SubmissionFlags v
can_put m SubmissionDropped v = sub_can_put m.submissions SubmissionDropped v
can_put m (Array i) v = sub_can_put m.submissions (Array i) v
can_put m (Slot i) v = sub_can_put m.submissions (Slot i) v
can_put m CompletionHead v = com_can_put m.completions CompletionHead v
can_put m CompletionTail v = com_can_put m.completions CompletionTail v
can_put m (Completion i) v = com_can_put m.completions (Completion i) v
can_put m (MemoryByte a) v = world_can_put m.world (MemoryByte a) v
can_put m (FileByte o i) v = world_can_put m.world (FileByte o i) v
can_put m (DurableByte o i) v = world_can_put m.world (DurableByte o i) v
can_put m (FileLength o) v = world_can_put m.world (FileLength o) v
can_put m (DurableLength o) v = world_can_put m.world (DurableLength o) v
can_put m (Position fd) v = world_can_put m.world (Position fd) v
can_put m (OpenMark fd) v = world_can_put m.world (OpenMark fd) v
can_put m (PipeByte o i) v = world_can_put m.world (PipeByte o i) v
can_put m (PutCount o) v = world_can_put m.world (PutCount o) v
can_put m (TakenCount o) v = world_can_put m.world (TakenCount o) v
can_put m (EventCount o) v = world_can_put m.world (EventCount o) v
can_put m (Request i) v = table_can_put m.table (Request i) v
can_put m (Backlog i) v = backlog_can_put m.backlog (Backlog i) v
can_put m BacklogFront v = backlog_can_put m.backlog BacklogFront v
can_put m Clock (Some (Number n)) = Unit {0}
can_put m Counted (Some (Number n)) = n < 2 ^ 32
can_put m PollerStage (Some (IsAwake b)) = is_some m.poller ≡ true
can_put m (ProgramCounter t) v = threads_can_put m.threads (ProgramCounter t) v
can_put m (ThreadStage t) v = threads_can_put m.threads (ThreadStage t) v
can_put m (Last t) v = threads_can_put m.threads (Last t) v
can_put m (Got t) v = threads_can_put m.threads (Got t) v
can_put m p v = ⊥

-- The machines agree in all that a setup fixes: the sizes, the programs, the objects and
-- descriptors, whether there is a poller, and whether a submission continues after an error.
pub record OneSetup (m n : Machine) : Type 0 where
  pub array : length m.submissions.array ≡ length n.submissions.array
  pub slots : length m.submissions.slots ≡ length n.submissions.slots
  pub completions : length m.completions.slots ≡ length n.completions.slots
  pub world : OneWorldSetup m.world n.world
  pub programs : map program_of m.threads ≡ map program_of n.threads
  pub poller : is_some m.poller ≡ is_some n.poller
  pub submit_all : m.submit_all ≡ n.submit_all

-- The machines have the same setup. The second has all requests of the first, and no fewer
-- overflowed completions.
pub record Grows (m n : Machine) : Type 0 where
  pub setup : OneSetup m n
  pub rows : length m.table ≤ length n.table
  pub stay : Stay m.table n.table
  pub backlog : length m.backlog.items ≤ length n.backlog.items

-- Whether the poller is asleep.
abbrev pub is_asleep : Option Poller → Bool
is_asleep None = false
is_asleep (Some p) = not (is_awake p)

-- The flags word: IORING_SQ_NEED_WAKEUP while the poller is asleep, IORING_SQ_CQ_OVERFLOW while
-- completions overflow (io_uring_setup(2)).
abbrev pub flag_word : Bool → Bool → ℕ
flag_word asleep keeps = (if asleep then 1 else 0) + (if keeps then 2 else 0)

-- A waiting thread is at an Enter, and its numbers fit 32 bits.
pub record Waits (x : ThreadState) (n w : ℕ) : Type 0 where
  pub submitted : n < 2 ^ 32
  pub needed : w < 2 ^ 32
  pub to_submit : ℕ
  pub min_complete : ℕ
  pub flags : ℕ
  pub enter : slice_get x.program x.counter ≡ Some (Enter to_submit min_complete flags)

-- A thread is within its program or at its end, and the program is valid.
pub record ThreadWellFormed (size : ℕ) (x : ThreadState) : Type 0 where
  pub within : x.counter ≤ length x.program
  pub program : IsProgram size x.program
  pub last : FitsSigned w64 x.last
  pub waits : (n w : ℕ) → x.stage ≡ Waiting n w → Waits x n w

-- All threads are.
abbrev pub AllThreadsWellFormed : ℕ → List ThreadState → Type 0
AllThreadsWellFormed size threads = (t : ℕ) (x : ThreadState) → slice_get threads t ≡ Some x → ThreadWellFormed size x

-- The request holds the descriptor that its entry names. The setup has this descriptor, and its end
-- of the object fits the request.
pub record HoldsDescriptor (w : WorldState) (x : Row) : Type 0 where
  pub fd : ℕ
  pub held : x.held ≡ Some fd
  pub named : x.entry.fd ≡ pos fd
  pub descriptor : DescriptorState
  pub there : descriptor_of w fd ≡ Some descriptor
  pub fits : fits_end x.entry.opcode descriptor.end ≡ true

-- A timeout is seconds and nanoseconds, each at most 2^63 - 1 (struct __kernel_timespec).
abbrev pub IsTime : Option ℕ → Type 0
IsTime time = (t : ℕ) → time ≡ Some t → t ≤ (2 ^ 63 - 1) * 1000000001

-- An unfinished request has a supported opcode, and a timeout exactly if it is a timer. A queued
-- one holds no descriptor and has no deadline. An issued one holds its descriptor exactly if its
-- opcode uses one, and has a deadline exactly if it is a timer.
pub record RowFormed (w : WorldState) (x : Row) : Type 0 where
  pub opcode : is_unfinished x.phase ≡ true → IsSome (op_of x.entry.opcode)
  pub holds : is_issued x.phase ≡ true → uses_descriptor x.entry.opcode ≡ true → HoldsDescriptor w x
  pub holds_none : is_issued x.phase ≡ true → uses_descriptor x.entry.opcode ≡ false → x.held ≡ None
  pub not_yet_held : is_queued x.phase ≡ true → x.held ≡ None
  pub not_yet_due : is_queued x.phase ≡ true → x.deadline ≡ None
  pub time : is_unfinished x.phase ≡ true → IsTime x.time
  pub timed : is_unfinished x.phase ≡ true → is_some x.time ≡ is_timer x.entry.opcode
  pub due : is_issued x.phase ≡ true → is_some x.deadline ≡ is_some x.time

-- A linked timeout comes directly after its target, in the same chain and the same phase. The
-- target is no linked timeout.
pub record GuardIsLinked (rows : List Row) (r : ℕ) (x : Row) : Type 0 where
  pub target : ℕ
  pub is : x.target ≡ Some target
  pub follows : target + 1 ≡ r
  pub row : Row
  pub there : slice_get rows target ≡ Some row
  pub other : is_guard row ≡ false
  pub unit : row.unit ≡ x.unit
  pub alike : row.phase ≡ x.phase

-- No issued TIMEOUT has reached its count, because it completes as soon as it does.
abbrev pub NoneMet : ℕ → List Row → Type 0
NoneMet counted rows = (r : ℕ) (x : Row) → slice_get rows r ≡ Some x → is_met counted x ≡ false

-- Each unfinished linked timeout has a target in this way.
abbrev pub AllGuardsLinked : List Row → Type 0
AllGuardsLinked rows =
    (r : ℕ) (x : Row) → slice_get rows r ≡ Some x → is_guard x ≡ true → is_unfinished x.phase ≡ true
    → GuardIsLinked rows r x

-- The invariant of the rings: they hold at most as many items as they have room for, and the flags
-- word is right.
pub record RingsFormed (entry_ring : SubWords) (completion_ring : ComWords) (asleep keeps : Bool) : Type 0 where
  pub submissions : SubFormed entry_ring
  pub completions : ComFormed completion_ring
  pub entries_wait : waiting entry_ring.head entry_ring.tail ≤ length entry_ring.array
  pub completions_wait : waiting completion_ring.head completion_ring.tail
      ≤ length completion_ring.slots
  pub flags : entry_ring.flags ≡ flag_word asleep keeps

-- The invariant of the backlog: no more completions overflowed than requests completed.
pub record KeptFormed (backlog : BacklogState) (ended : ℕ) : Type 0 where
  pub front : backlog.front ≤ length backlog.items
  pub overflowed : length backlog.items ≤ ended

-- The invariant of the request table: at most 65,536 requests, chains are contiguous, and `total`
-- is the number of counted completions.
pub record TableFormed (rows : List Row) (total : ℕ) : Type 0 where
  pub few : length rows ≤ 65536
  pub chained : Chained rows
  pub counted : total ≡ counted_of rows

-- What holds even between the completions of a cascade.
pub record Mostly (m : Machine) : Type 0 where
  pub rings : RingsFormed m.submissions m.completions (is_asleep m.poller)
      (not (is_clear m.backlog))
  pub kept : KeptFormed m.backlog (ended_of m.table)
  pub table : TableFormed m.table m.counted
  pub world : WorldFormed m.world
  pub clock : m.clock < 2 ^ 64
  pub threads : AllThreadsWellFormed (length m.submissions.slots) m.threads

-- The invariant of a machine between steps. In addition to `Mostly`, each request is well formed,
-- and the pipes received at most 65,536 bytes per completed request.
pub record WellFormed (m : Machine) : Type 0 where
  pub mostly : Mostly m
  pub rows : (r : ℕ) (x : Row) → slice_get m.table r ≡ Some x → RowFormed m.world x
  pub guards : AllGuardsLinked m.table
  pub unmet : NoneMet m.counted m.table
  pub puts : PutsWithin (65536 * ended_of m.table) m.world

-- Every place belongs to the machine.
abbrev pub everywhere : Place → Bool
everywhere p = true

-- Undoing the changes in m leads back to s, which is well formed and has no more requests or
-- overflowed completions.
pub record GoesBack (s m : Machine) (cs : List Change) : Type 0 where
  pub formed : WellFormed s
  pub grows : Grows s m
  pub back : LeadsBack (view s) (view m) cs

-- The machine s is well formed, and m has the same setup and as many requests and overflowed
-- completions. Each change has the value that s has in its place.
pub record Overwrites (s m : Machine) (cs : List Change) : Type 0 where
  pub formed : WellFormed s
  pub setup : OneSetup s m
  pub rows : map fixed_of s.table ≡ map fixed_of m.table
  pub backlog : length s.backlog.items ≡ length m.backlog.items
  pub values : (p : Place) (x : Option Value) → named cs p ≡ Some x → x ≡ view s p

-- The machine n is m with the changes undone, and has as many requests and overflowed completions.
pub record Overwritten (m n : Machine) (cs : List Change) : Type 0 where
  pub setup : OneSetup m n
  pub rows : map fixed_of m.table ≡ map fixed_of n.table
  pub backlog : length m.backlog.items ≡ length n.backlog.items
  pub undone : (p : Place) → view n p ≡ undo (view m) cs p
