-- Lemmas about Enter, and about events that need a request.
use Rattle.machine.proofs.Common.{◌≡◌, ℕ, Bool, true, false, sym, ◌∙◌, ap, List, length, ◌+◌, ◌<◌, ◌≤◌, arith, Option, Some, None, Result, Ok, Err, slice_get, slice_set, if◌then◌else◌, option_map_or, Row, Queued, Issued, ended-le-length, is_clear, einval, ebusy, flushed, before_submission, is_busy, submission_refusal, alone_refusal, issue_refusal, issued, held_by, lacks_descriptor, answered, entered, entered_without_poller, base_of, deadline_of, expire_refusal, is_guard_of, started, updated, updated_set, Ready, ThreadState, AllGuardsLinked, WellFormed, Machine, sub_list, is_eligible}
use Rattle.std.specs.Result.{OnOk}
use Rattle.machine.proofs.IssuingRows.{started_at_once}

-- After a flush, no overflowed completion prevents the submission.
pub alone_refused : (m : Machine) (k flags : ℕ) → is_busy (flushed m) k ≡ false → submission_refusal m k ≡ alone_refusal m k flags
unfolding sub_list
alone_refused = grind arith

-- Overflowed completions remain and prevent it.
pub busy_refused : (m : Machine) (k flags : ℕ) → is_busy (flushed m) k ≡ true → None ≡ alone_refusal m k flags
busy_refused = grind arith

-- ---- Results

-- Unknown flags.
pub unknown_answered : (m : Machine) (t k w flags : ℕ) → 3 < flags → answered m t einval ≡ entered m m.poller t k w flags
unknown_answered = grind arith

-- Overflowed completions.
pub busy_answered : (m n : Machine) (t k w flags : ℕ) → n ≡ before_submission m k flags → 0 < k → is_clear n.backlog ≡ false → answered n t ebusy ≡ entered_without_poller m t k w flags
busy_answered = grind arith

-- The same, for the result of a function.
pub busy_answer : {T E : Type 0} (r : Result T E) (m n : Machine) (ts : List ThreadState) (t k w flags : ℕ) → n ≡ before_submission m k flags → 0 < k → is_clear n.backlog ≡ false
    → OnOk r (ts ≡ updated (λ x. record x { counter = x.counter + 1; last = ebusy; stage = Ready }) n.threads t) → OnOk r (record n { threads = ts } ≡ entered_without_poller m t k w flags)
busy_answer (Ok x) m n ts t k w flags e l h o = ap (λ us. record n { threads = us }) o ∙ busy_answered m n t k w flags e l h
busy_answer (Err x) m n ts t k w flags e l h o = o

-- A request that can be issued is present and queued.
pub record CanStart (m : Machine) (r : ℕ) : Type 0 where
  pub row : Row
  pub there : slice_get m.table r ≡ Some row
  pub queued : row.phase ≡ Queued
  pub eligible : is_eligible m.table r ≡ true

pub can_start : (m : Machine) (r : ℕ) → issue_refusal m.table r (slice_get m.table r) ≡ None → CanStart m r
can_start = grind arith

-- A request that can expire is present and issued.
pub expired_row : (m : Machine) (r : ℕ) → expire_refusal m.clock (slice_get m.table r) ≡ None → (x : Row) × (slice_get m.table r ≡ Some x) × (x.phase ≡ Issued)
expired_row = grind arith

pub backlog_most : (m : Machine) → WellFormed m → length m.backlog.items ≤ length m.table
backlog_most m f = let a = ended-le-length m.table in let b = f.mostly.kept.overflowed in omega (arith, a, b)

-- ---- Issuing a request

-- Two functions that agree on an item change the list in the same way.
updated_alike : {X : Type 0} (f g : X → X) (xs : List X) (i : ℕ) (x : X) → slice_get xs i ≡ Some x → f x ≡ g x → updated f xs i ≡ updated g xs i
updated_alike f g xs i x h e = updated_set f xs i x h ∙ ap (slice_set xs i) e ∙ sym (updated_set g xs i x h)

-- A request that has its descriptor, deadline and count is issued.
pub started_ok : {T E : Type 0} (res : Result T E) (rows news : List Row) (c n r : ℕ) (x : Row) (held due : Option ℕ) (base : ℕ) → slice_get rows r ≡ Some x → held ≡ held_by x → due ≡ deadline_of c x → base ≡ base_of n x
    → OnOk res (news ≡ updated (λ row. record row { phase = Issued; held = held; deadline = due; base = base }) rows r) → OnOk res (news ≡ updated (started c n) rows r)
started_ok = grind (arith, updated_alike)

-- The same for the machine's table.
pub started_machine : {T E : Type 0} (res : Result T E) (m : Machine) (rows news : List Row) → OnOk res (rows ≡ news) → OnOk res (record m { table = rows } ≡ record m { table = news })
started_machine = grind arith

-- The machine after a request was issued, with or without a linked timeout.
pub issued_with_guard : (m : Machine) (r : ℕ) (x : Row) (b : Bool) → AllGuardsLinked m.table → slice_get m.table r ≡ Some x → lacks_descriptor m.world x ≡ false → option_map_or (is_guard_of r) (slice_get m.table (r + 1)) false ≡ b
    → record m { table = if b then updated (started m.clock m.counted) (updated (started m.clock m.counted) m.table r) (r + 1) else updated (started m.clock m.counted) m.table r } ≡ issued m r (slice_get m.table r)
issued_with_guard = grind (arith, started_at_once)
