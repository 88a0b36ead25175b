-- Changes that a part of the machine records correctly are recorded correctly for the whole
-- machine.
use Rattle.machine.proofs.Common.{◌≡◌, ℕ, ◌<◌, Bool, true, false, refl, length, List, arith, Option, Some, slice_set, if◌then◌else◌, Sqe, Row, Place, SubmissionHead, SubmissionTail, SubmissionFlags, SubmissionDropped, Array, Slot, MemoryByte, FileByte, DurableByte, FileLength, DurableLength, Position, OpenMark, PipeByte, PutCount, TakenCount, EventCount, Request, Backlog, BacklogFront, Clock, Counted, ProgramCounter, ThreadStage, Last, Got, Value, Number, Entry, Change, put_at, Keeps, Noted, same_place_is, keeps_noted, SubWords, sub_owns, sub_seen, WorldState, world_owns, world_seen, table_owns, table_seen, BacklogState, backlog_owns, backlog_seen, ThreadState, threads_owns, threads_seen, view, everywhere, Machine, same_place}
use Rattle.ring_words.proofs.Seen.{sub_seen_slot}

pub lift_world : (m : Machine) (w : WorldState) (cs ds : List Change) → Keeps world_owns (world_seen m.world) (world_seen w) cs ds → Keeps everywhere (view m) (view (record m { world = w })) cs ds
lift_world = grind arith

pub lift_threads : (m : Machine) (w : List ThreadState) (cs ds : List Change) → Keeps threads_owns (threads_seen m.threads) (threads_seen w) cs ds → Keeps everywhere (view m) (view (record m { threads = w })) cs ds
lift_threads = grind arith

-- ---- The values after a write

pub seen_clock : (m : Machine) (n : ℕ) (q : Place) → view (record m { clock = n }) q ≡ put_at (view m) Clock (Some (Number n)) q
unfolding same_place
seen_clock = grind arith

pub seen_counted : (m : Machine) (n : ℕ) (q : Place) → view (record m { counted = n }) q ≡ put_at (view m) Counted (Some (Number n)) q
unfolding same_place
seen_counted = grind arith

pub keeps_clock : (m : Machine) (n : ℕ) (cs ds : List Change) → Noted cs ds Clock (Some (Number m.clock)) → Keeps everywhere (view m) (view (record m { clock = n })) cs ds
keeps_clock m n cs ds h = keeps_noted everywhere (view m) (view (record m { clock = n })) cs ds Clock (Some (Number n)) refl h (seen_clock m n)

pub keeps_counted : (m : Machine) (n : ℕ) (cs ds : List Change) → Noted cs ds Counted (Some (Number m.counted)) → Keeps everywhere (view m) (view (record m { counted = n })) cs ds
keeps_counted m n cs ds h = keeps_noted everywhere (view m) (view (record m { counted = n })) cs ds Counted (Some (Number n)) refl h (seen_counted m n)

-- A place of one part differs from all places of another.
apart : {X : Type 0} (owns : Place → Bool) (p q : Place) (v x : X) → owns p ≡ true → owns q ≡ false → x ≡ (if same_place p q then v else x)
apart = grind (arith, same_place_is)

pub seen_submissions : (m : Machine) (w : SubWords) (p : Place) (v : Option Value) → sub_owns p ≡ true → ((q : Place) → sub_seen w q ≡ put_at (sub_seen m.submissions) p v q) → (q : Place) → view (record m { submissions = w }) q ≡ put_at (view m) p v q
seen_submissions m w p v o h SubmissionHead = h SubmissionHead
seen_submissions m w p v o h SubmissionTail = h SubmissionTail
seen_submissions m w p v o h SubmissionFlags = h SubmissionFlags
seen_submissions m w p v o h SubmissionDropped = h SubmissionDropped
seen_submissions m w p v o h (Array i) = h (Array i)
seen_submissions m w p v o h (Slot i) = h (Slot i)
seen_submissions m w p v o h q = apart sub_owns p q v (view m q) o refl

-- An entry slot is recorded, and then written.
pub keeps_slot : (m : Machine) (i : ℕ) (e : Sqe) (cs ds : List Change) → i < length m.submissions.slots → Noted cs ds (Slot i) (sub_seen m.submissions (Slot i)) → Keeps everywhere (view m) (view (record m { submissions = record m.submissions { slots = slice_set m.submissions.slots i e } })) cs ds
keeps_slot m i e cs ds there noted =
    let w = record m.submissions { slots = slice_set m.submissions.slots i e } in
    keeps_noted everywhere (view m) (view (record m { submissions = w })) cs ds (Slot i) (Some (Entry e)) refl noted (seen_submissions m w (Slot i) (Some (Entry e)) refl (sub_seen_slot m.submissions i e there))

pub seen_world : (m : Machine) (w : WorldState) (p : Place) (v : Option Value) → world_owns p ≡ true → ((q : Place) → world_seen w q ≡ put_at (world_seen m.world) p v q) → (q : Place) → view (record m { world = w }) q ≡ put_at (view m) p v q
seen_world m w p v o h (MemoryByte a) = h (MemoryByte a)
seen_world m w p v o h (FileByte x i) = h (FileByte x i)
seen_world m w p v o h (DurableByte x i) = h (DurableByte x i)
seen_world m w p v o h (FileLength x) = h (FileLength x)
seen_world m w p v o h (DurableLength x) = h (DurableLength x)
seen_world m w p v o h (Position fd) = h (Position fd)
seen_world m w p v o h (OpenMark fd) = h (OpenMark fd)
seen_world m w p v o h (PipeByte x i) = h (PipeByte x i)
seen_world m w p v o h (PutCount x) = h (PutCount x)
seen_world m w p v o h (TakenCount x) = h (TakenCount x)
seen_world m w p v o h (EventCount x) = h (EventCount x)
seen_world m w p v o h q = apart world_owns p q v (view m q) o refl

pub seen_table : (m : Machine) (w : List Row) (p : Place) (v : Option Value) → table_owns p ≡ true → ((q : Place) → table_seen w q ≡ put_at (table_seen m.table) p v q) → (q : Place) → view (record m { table = w }) q ≡ put_at (view m) p v q
seen_table m w p v o h (Request i) = h (Request i)
seen_table m w p v o h q = apart table_owns p q v (view m q) o refl

pub seen_threads : (m : Machine) (w : List ThreadState) (p : Place) (v : Option Value) → threads_owns p ≡ true → ((q : Place) → threads_seen w q ≡ put_at (threads_seen m.threads) p v q) → (q : Place) → view (record m { threads = w }) q ≡ put_at (view m) p v q
seen_threads m w p v o h (ProgramCounter t) = h (ProgramCounter t)
seen_threads m w p v o h (ThreadStage t) = h (ThreadStage t)
seen_threads m w p v o h (Last t) = h (Last t)
seen_threads m w p v o h (Got t) = h (Got t)
seen_threads m w p v o h q = apart threads_owns p q v (view m q) o refl

pub seen_backlog : (m : Machine) (w : BacklogState) (p : Place) (v : Option Value) → backlog_owns p ≡ true → ((q : Place) → backlog_seen w q ≡ put_at (backlog_seen m.backlog) p v q) → (q : Place) → view (record m { backlog = w }) q ≡ put_at (view m) p v q
seen_backlog m w p v o h (Backlog i) = h (Backlog i)
seen_backlog m w p v o h BacklogFront = h BacklogFront
seen_backlog m w p v o h q = apart backlog_owns p q v (view m q) o refl
