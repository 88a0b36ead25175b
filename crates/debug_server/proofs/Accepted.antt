-- Properties of accepted events: no transfer moves zero bytes, and none is refused.
use Rattle.std.proofs.Common.{◌≡◌, ◌≢◌, ℕ, ℤ, zero, suc, ◌+◌, Bool, true, false, cond, Option, Result, Ok, Err, List, [], ◌∷◌, take, refl, sym, ap, ◌∙◌, arith}
use Rattle.std.specs.Prelude.{◌-◌, ◌^◌, ◌==◌, nat_lt, nat_le, not, Some, None, IfErr, slice_get}
use Rattle.std.specs.List.{list_all}
use Rattle.std.proofs.lemmas.Bool.{and_from, lt-ltb}
use Rattle.entries.specs.declared.entry.Sqe.{Sqe}
use Rattle.entries.specs.declared.row.Row.{Row}
use Rattle.entries.specs.declared.row.Phase.{Phase}
use Rattle.entries.specs.declared.row.Phase.TheVariants.{Queued, Issued, Ended}
use Rattle.model_files.specs.declared.descriptor.DescriptorState.{DescriptorState}
use Rattle.model_files.specs.declared.stock.Stock.{Stock}
use Rattle.model_files.specs.declared.stock.Stock.TheVariants.{File, Pipe, EventFd}
use Rattle.model_files.specs.Ends.{mask_of_descriptor}
use Rattle.model_files.specs.Worlds.{WorldState, number_at}
use Rattle.entries.specs.declared.choice.Choice.TheVariants.{Full, Short, Eio}
use Rattle.opcodes.specs.declared.op.Op.{Op}
use Rattle.opcodes.specs.declared.op.Op.TheVariants.{Nop, Fsync, PollAdd, PollRemove, Timeout, TimeoutRemove, AsyncCancel, LinkTimeout, Read, Write}
use Rattle.opcodes.specs.declared.ending.Outcome.{Outcome}
use Rattle.opcodes.specs.declared.ending.Outcome.TheVariants.{Res, Waits, BadChoice}
use Rattle.opcodes.specs.Check.{op_of}
use Rattle.opcodes.specs.Opcodes.{is_cancel}
use Rattle.opcodes.specs.Outcomes.{held_descriptor, stock_at, position_of, has_writer_at, has_reader_at, is_bad_offset, offset_of, passes_memory, ready_of, waits_for_room, file_read, file_written, pipe_read, pipe_written, event_read, event_written, fsync_outcome, read_outcome, write_outcome, outcome_on}
use Rattle.scenario.specs.declared.event.Event.{Event}
use Rattle.scenario.specs.declared.event.Event.TheVariants.{Step, Take, Sleep, Issue, Finish, Expire, Tick}
use Rattle.scenario.specs.declared.event.Refusal.{Refusal}
use Rattle.scenario.specs.declared.event.Refusal.TheVariants.{BadChoice as BadlyChosen}
use Rattle.scenario.specs.declared.setup.Setup.{Setup}
use Rattle.machine.specs.declared.whole.Machine.{Machine}
use Rattle.machine.specs.Steps.{refusal, after, outcome_refusal, phase_refusal, finish_refusal}
use Rattle.machine.specs.Runs.{run, start, Accepts, IsRefused}
use Rattle.traces.specs.Spelling.{has_transfer}
use Rattle.debug_server.specs.declared.faults.RunFault.{RunFault}
use Rattle.debug_server.specs.declared.faults.RunFault.TheVariants.{Script, Schedule, Serve, Memory, Net, Trace}
use Rattle.debug_server.specs.Kinds.{IsOf, OfSchedule, OfServing, OfMemory}

-- ---- Transfers of zero bytes

-- An outcome without a result.
record NoResult (o : Outcome) : Type 0 where
  pub none : (res : ℤ) → o ≢ Res res

waits : NoResult Waits
waits = record { none = λ res h. absurd cc }

bad : NoResult BadChoice
bad = record { none = λ res h. absurd cc }

neither : (b : Bool) (x y : Outcome) → NoResult x → NoResult y → NoResult (cond b x y)
neither true x y f g = f
neither false x y f g = g

file_reads : (e : Sqe) (position len : ℕ) → NoResult (file_read e position len (Short zero))
file_reads e position len = neither (is_bad_offset e) _ _ bad bad

file_writes : (e : Sqe) (position : ℕ) → NoResult (file_written e position (Short zero))
file_writes e position =
    neither (is_bad_offset e) _ _ bad (neither (e.len == 0) _ _ bad (neither (nat_le 65536 (offset_of e position)) _ _ bad bad))

pipe_reads : (len : ℕ) (writer : Bool) (filled : ℕ) → NoResult (pipe_read len writer filled (Short zero))
pipe_reads len writer filled = neither (len == 0) _ _ bad (neither (filled == 0) _ _ (neither writer _ _ waits bad) bad)

pipe_writes : (len : ℕ) (reader : Bool) (filled capacity : ℕ) → NoResult (pipe_written len reader filled capacity (Short zero))
pipe_writes len reader filled capacity =
    neither (len == 0) _ _ bad (neither (not reader) _ _ bad (neither (waits_for_room len (capacity - filled) capacity) _ _ waits bad))

event_reads : (len counter : ℕ) → NoResult (event_read len counter (Short zero))
event_reads len counter = neither (nat_lt len 8) _ _ bad (neither (counter == 0) _ _ waits bad)

event_writes : (len counter number : ℕ) → NoResult (event_written len counter number (Short zero))
event_writes len counter number =
    neither (nat_lt len 8) _ _ bad (neither (number == 2 ^ 64 - 1) _ _ bad (neither (nat_lt (2 ^ 64 - 2) (counter + number)) _ _ waits bad))

reads : (e : Sqe) (position : ℕ) (writer : Bool) (s : Option Stock) → NoResult (read_outcome e position writer s (Short zero))
reads e position writer None = bad
reads e position writer (Some (File len)) = file_reads e position len
reads e position writer (Some (Pipe filled capacity)) = pipe_reads e.len writer filled
reads e position writer (Some (EventFd counter)) = event_reads e.len counter

writes : (e : Sqe) (position : ℕ) (reader : Bool) (number : ℕ) (s : Option Stock) → NoResult (write_outcome e position reader number s (Short zero))
writes e position reader number None = bad
writes e position reader number (Some (File len)) = file_writes e position
writes e position reader number (Some (Pipe filled capacity)) = pipe_writes e.len reader filled capacity
writes e position reader number (Some (EventFd counter)) = event_writes e.len counter number

syncs : (s : Option Stock) → NoResult (fsync_outcome s (Short zero))
syncs None = bad
syncs (Some (File len)) = bad
syncs (Some (Pipe filled capacity)) = bad
syncs (Some (EventFd counter)) = bad

ends : (held : ℕ → Bool) (w : WorldState) (e : Sqe) (op : Option Op) (d : Option DescriptorState) → NoResult (outcome_on held w e op d (Short zero))
ends held w e None d = bad
ends held w e (Some Nop) d = bad
ends held w e (Some Fsync) d = syncs (stock_at w d)
ends held w e (Some PollAdd) d = neither (ready_of e (mask_of_descriptor held w d) == 0) _ _ waits bad
ends held w e (Some PollRemove) d = bad
ends held w e (Some Timeout) d = bad
ends held w e (Some TimeoutRemove) d = bad
ends held w e (Some AsyncCancel) d = bad
ends held w e (Some LinkTimeout) d = bad
ends held w e (Some Read) d = neither (passes_memory e) _ _ bad (reads e (position_of d) (has_writer_at held w d) (stock_at w d))
ends held w e (Some Write) d = neither (passes_memory e) _ _ bad (writes e (position_of d) (has_reader_at held w d) (number_at w e.addr) (stock_at w d))

-- ---- Accepted events

no_choice : (b : Bool) (o : Outcome) (r : Refusal) → NoResult o → cond b (Some r) (outcome_refusal o) ≢ None
no_choice true o r f = λ h. absurd cc
no_choice false (Res res) r f = absurd (f.none res refl)
no_choice false Waits r f = λ h. absurd cc
no_choice false BadChoice r f = λ h. absurd cc

no_phase : (p : Phase) (o : Option Refusal) → o ≢ None → phase_refusal p o ≢ None
no_phase Queued o f = λ h. absurd cc
no_phase Issued o f = f
no_phase (Ended res) o f = λ h. absurd cc

no_timer : (b : Bool) (o : Option Refusal) (r : Refusal) → o ≢ None → cond b (Some r) o ≢ None
no_timer true o r f = λ h. absurd cc
no_timer false o r f = f

no_finish : (held : ℕ → Bool) (w : WorldState) (row : Option Row) → finish_refusal held w row (Short zero) ≢ None
no_finish held w None = λ h. absurd cc
no_finish held w (Some row) = no_timer _ _ _ (no_phase row.phase _ (no_choice (is_cancel row.entry.opcode) _ BadlyChosen (ends held w row.entry (op_of row.entry.opcode) (held_descriptor w row))))

moves : (m : Machine) (e : Event) → refusal m e ≡ None → has_transfer e ≡ true
moves m (Step n) h = refl
moves m (Take n) h = refl
moves m Sleep h = refl
moves m (Issue n) h = refl
moves m (Finish n Full) h = refl
moves m (Finish n (Short zero)) h = absurd (search (no_finish, h))
moves m (Finish n (Short (suc k))) h = lt-ltb 0 (suc k) (omega arith)
moves m (Finish n Eio) h = refl
moves m (Expire n) h = refl
moves m (Tick d) h = refl

pub all_accepted : (m : Machine) (es : List Event) → Accepts m es → list_all has_transfer es ≡ true
all_accepted m [] h = refl
all_accepted m (e ∷ es) h = and_from _ _ (moves m e h.0) (all_accepted (after m e) es h.1)

-- ---- Accepted events are not refused

accepted_at : (m : Machine) (es : List Event) (i : ℕ) (e : Event) → Accepts m es → slice_get es i ≡ Some e → refusal (run m (take i es)) e ≡ None
accepted_at m [] i e a g = absurd cc
accepted_at m (x ∷ es) zero e a g = let same : x ≡ e = cc in ap (refusal m) (sym same) ∙ a.0
accepted_at m (x ∷ es) (suc i) e a g = accepted_at (after m x) es i e a.1 g

pub none_refused : (s : Setup) (es : List Event) (i : ℕ) (n : Refusal) → Accepts (start s) es → IsRefused s es i n → ⊥
none_refused s es i n a r = let none = accepted_at (start s) es i r.event a r.there in let some = r.refused in absurd cc

answers : {K : Type 0} (s : Setup) (es : List Event) (e : RunFault) → Accepts (start s) es → ((i : ℕ) (n : Refusal) → e ≡ Schedule i n → IsRefused s es i n × K) → IsOf (OfSchedule ∷ OfServing ∷ OfMemory ∷ []) e → IsOf (OfServing ∷ OfMemory ∷ []) e
answers s es (Schedule i n) a f h = absurd (none_refused s es i n a (f i n refl).0)
answers s es (Serve f) a g h = refl
answers s es Memory a g h = refl
answers s es (Script f) a g h = h
answers s es Net a g h = h
answers s es (Trace f) a g h = h

pub answering : {A : Type 0} (K : Type 0) (s : Setup) (es : List Event) (r : Result A RunFault) → Accepts (start s) es → IfErr r (λ e. (i : ℕ) (n : Refusal) → e ≡ Schedule i n → IsRefused s es i n × K) → IfErr r (IsOf (OfSchedule ∷ OfServing ∷ OfMemory ∷ [])) → IfErr r (IsOf (OfServing ∷ OfMemory ∷ []))
answering K s es (Ok x) a f h = h
answering K s es (Err e) a f h = answers s es e a f h
