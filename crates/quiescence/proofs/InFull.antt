-- A request that can finish by some choice can finish in full.
use Rattle.std.proofs.Common.{◌≡◌, ℕ, Bool, true, false, refl, if◌then◌else◌, ◌-◌, ◌+◌, ◌==◌}
use Rattle.std.specs.Prelude.{Option, Some, None, slice_get, ℤ, pos, negsuc, not, nat_lt, nat_le, ◌^◌}
use Rattle.entries.specs.declared.entry.Sqe.{Sqe}
use Rattle.entries.specs.declared.row.Row.{Row}
use Rattle.entries.specs.declared.row.Phase.{Phase}
use Rattle.entries.specs.declared.row.Phase.TheVariants.{Queued, Issued, Ended}
use Rattle.entries.specs.declared.choice.Choice.{Choice}
use Rattle.entries.specs.declared.choice.Choice.TheVariants.{Full}
use Rattle.opcodes.specs.declared.op.Op.{Op}
use Rattle.opcodes.specs.declared.op.Op.TheVariants.{Nop, Fsync, PollAdd, Read, Write}
use Rattle.opcodes.specs.declared.ending.Outcome.{Outcome}
use Rattle.opcodes.specs.declared.ending.Outcome.TheVariants.{Waits, BadChoice}
use Rattle.opcodes.specs.Opcodes.{is_cancel, is_timer}
use Rattle.opcodes.specs.Check.{op_of}
use Rattle.opcodes.specs.Outcomes.{fixed, transferred, passes_memory, is_bad_offset, offset_of, waits_for_room, fsync_outcome, ready_of, read_outcome, write_outcome, outcome_on, stock_at, held_descriptor}
use Rattle.model_files.specs.declared.descriptor.DescriptorState.{DescriptorState}
use Rattle.model_files.specs.declared.stock.Stock.{Stock}
use Rattle.model_files.specs.declared.stock.Stock.TheVariants.{File, Pipe, EventFd}
use Rattle.model_files.specs.Ends.{mask_of_descriptor as mask}
use Rattle.model_files.specs.Worlds.{WorldState}
use Rattle.links_drains.specs.Holding.{is_held_by}
use Rattle.scenario.specs.declared.event.Event.TheVariants.{Finish}
use Rattle.scenario.specs.declared.event.Refusal.{Refusal}
use Rattle.scenario.specs.declared.event.Refusal.TheVariants.{WrongPhase}
use Rattle.machine.specs.declared.whole.Machine.{Machine}
use Rattle.machine.specs.Steps.{refusal, outcome_refusal, full_refusal, choice_refusal, phase_refusal, finish_refusal}

-- If some choice is accepted, Full is.
record AcceptsFull (f : Choice → Option Refusal) : Type 0 where
  pub full : (c : Choice) → f c ≡ None → f Full ≡ None

-- The same for outcomes.
record EndsInFull (f : Choice → Outcome) : Type 0 where
  pub ends : AcceptsFull (λ c. outcome_refusal (f c))

same : (o : Outcome) → EndsInFull (λ c. o)
same o = record { ends = record { full = λ c h. h } }

fix : (z : ℤ) → EndsInFull (fixed z)
fix z = record { ends = record { full = λ c h. refl } }

moved : (k : ℕ) → EndsInFull (transferred k)
moved k = record { ends = record { full = λ c h. refl } }

either : (b : Bool) (f g : Choice → Outcome) → EndsInFull f → EndsInFull g → EndsInFull (λ c. if b then f c else g c)
either true f g p q = p
either false f g p q = q

fsync : (s : Option Stock) → EndsInFull (fsync_outcome s)
fsync None = same BadChoice
fsync (Some (File len)) = record { ends = record { full = λ c h. refl } }
fsync (Some (Pipe filled capacity)) = fix (negsuc 21)
fsync (Some (EventFd counter)) = fix (negsuc 21)

read : (e : Sqe) (position : ℕ) (writer : Bool) (s : Option Stock) → EndsInFull (read_outcome e position writer s)
read e p w None = same BadChoice
read e p w (Some (File len)) = either (is_bad_offset e) _ _ (fix (negsuc 21)) (moved _)
read e p w (Some (Pipe filled capacity)) = either (e.len == 0) _ _ (fix (pos 0)) (either (filled == 0) _ _ (either w _ _ (same Waits) (fix (pos 0))) (fix _))
read e p w (Some (EventFd counter)) = either (nat_lt e.len 8) _ _ (fix (negsuc 21)) (either (counter == 0) _ _ (same Waits) (fix (pos 8)))

write : (e : Sqe) (position : ℕ) (reader : Bool) (number : ℕ) (s : Option Stock) → EndsInFull (write_outcome e position reader number s)
write e p r n None = same BadChoice
write e p r n (Some (File len)) = either (is_bad_offset e) _ _ (fix (negsuc 21)) (either (e.len == 0) _ _ (fix (pos 0)) (either (nat_le 65536 (offset_of e p)) _ _ (fix (negsuc 26)) (moved _)))
write e p r n (Some (Pipe filled capacity)) = either (e.len == 0) _ _ (fix (pos 0)) (either (not r) _ _ (fix (negsuc 31)) (either (waits_for_room e.len (capacity - filled) capacity) _ _ (same Waits) (fix _)))
write e p r n (Some (EventFd counter)) = either (nat_lt e.len 8) _ _ (fix (negsuc 21)) (either (n == 2 ^ 64 - 1) _ _ (fix (negsuc 21)) (either (nat_lt (2 ^ 64 - 2) (counter + n)) _ _ (same Waits) (fix (pos 8))))

op_ends : (held : ℕ → Bool) (w : WorldState) (e : Sqe) (op : Option Op) (d : Option DescriptorState) → EndsInFull (outcome_on held w e op d)
op_ends held w e (Some Nop) d = fix (pos 0)
op_ends held w e (Some Fsync) d = fsync (stock_at w d)
op_ends held w e (Some PollAdd) d = either (ready_of e (mask held w d) == 0) _ _ (same Waits) (fix _)
op_ends held w e (Some Read) d = either (passes_memory e) _ _ (fix (negsuc 13)) (read e _ _ _)
op_ends held w e (Some Write) d = either (passes_memory e) _ _ (fix (negsuc 13)) (write e _ _ _ _)
op_ends held w e op d = same BadChoice

choose : (b : Bool) (f g : Choice → Option Refusal) → AcceptsFull f → AcceptsFull g → AcceptsFull (λ c. if b then f c else g c)
choose true f g p q = p
choose false f g p q = q

phase : (p : Phase) (f : Choice → Option Refusal) → AcceptsFull f → AcceptsFull (λ c. phase_refusal p (f c))
phase Queued f q = record { full = λ c h. h }
phase Issued f q = q
phase (Ended res) f q = record { full = λ c h. h }

row_in_full : (held : ℕ → Bool) (w : WorldState) (o : Option Row) → AcceptsFull (finish_refusal held w o)
row_in_full held w None = record { full = λ c h. h }
row_in_full held w (Some row) = choose (is_timer row.entry.opcode) (λ c. Some WrongPhase) _ (record { full = λ c h. h }) (phase row.phase (choice_refusal held w row) (choose (is_cancel row.entry.opcode) full_refusal _ (record { full = λ c h. refl }) (op_ends held w row.entry (op_of row.entry.opcode) (held_descriptor w row)).ends))

pub finishes_in_full : (m : Machine) (r : ℕ) (c : Choice) → refusal m (Finish r c) ≡ None → refusal m (Finish r Full) ≡ None
finishes_in_full m r c h = (row_in_full (is_held_by m.table) m.world (slice_get m.table r)).full c h
