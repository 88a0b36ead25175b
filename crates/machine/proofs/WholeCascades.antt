-- Cascades are complete, because the target of an unfinished linked timeout is no linked timeout.
use Rattle.machine.proofs.Common.{◌≡◌, ℕ, false, List, ◌++◌, length, ◌+◌, ◌⊎◌, inl, inr, arith, Some, slice_get, Row, rows_of, is_guard, GuardsFormed, entries_for, taken, GuardIsLinked, WellFormed, Machine}
use Rattle.machine.proofs.{FormedSubmissions.old_or_new, GuardLemmas.batch_target, GuardLemmas.guard_before}

-- The target of a linked timeout is no linked timeout.
target_is_no_guard : (rows : List Row) (r t : ℕ) (x target : Row) → GuardIsLinked rows r x → x.target ≡ Some t → slice_get rows t ≡ Some target → is_guard target ≡ false
target_is_no_guard = grind arith

pub guards_formed : (m : Machine) → WellFormed m → GuardsFormed m.table
guards_formed m f r t x target e g u k h = target_is_no_guard m.table r t x target (f.guards r x e g u) k h

pub taken_formed : (m : Machine) (k : ℕ) → WellFormed m → GuardsFormed (taken m k).table
taken_formed m k f r t x target e g u o h = by (old_or_new m.table batch r x e)
  where
    batch : List Row
    batch = rows_of m.world (length m.table) (entries_for m k)

    by : (slice_get m.table r ≡ Some x) ⊎ ((i : ℕ) × (r ≡ length m.table + i) × (slice_get batch i ≡ Some x)) → is_guard target ≡ false
    by (inl a) = target_is_no_guard (m.table ++ batch) r t x target (guard_before m.table batch r x (f.guards r x a g u)) o h
    by (inr a) = target_is_no_guard (m.table ++ batch) (length m.table + a.0) t x target (batch_target m.world m.table (entries_for m k) a.0 t x a.2 g o) o h
