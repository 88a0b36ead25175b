-- The requests that a submission adds, and the invariant of each request.
use Rattle.machine.proofs.Common.{Option, Some, None, IsSome, is_some, slice_get, ◌&&◌, option_and_then, result_err, filter, eqb-true, Sqe, Row, Phase, Queued, WorldState, OneSetup as OneWorldSetup, is_timer, updated, is_ended, is_issued, is_unfinished, counts, counted_of, previous_in, error_at, error_of, rows_of, matching-more, became, deadline_of, entries_at, IsTime, RowFormed, common_steps, ◌≡◌, ℕ, suc, Bool, true, false, cond, refl, sym, ◌∙◌, ap, subst, List, [], ◌∷◌, length, ◌≤◌, ◌⊎◌, arith, descriptor_alike, check_of, op_of, time_of}
use Rattle.machine.proofs.ListsChanged.{updated_get}

-- ---- Valid entries

-- A valid entry has a supported opcode.
passes_supported : (w : WorldState) (previous : Option ℕ) (e : Sqe) → result_err (check_of w previous e) ≡ None → IsSome (op_of e.opcode)
passes_supported = grind arith

-- ---- How many there are

pub length-entries_at : (slots : List Sqe) (ws : List ℕ) → length (entries_at slots ws) ≤ length ws
length-entries_at slots [] = omega arith
length-entries_at slots (w ∷ ws) = grind (arith, length-entries_at slots ws)

-- Queued requests have not completed.
queued_none : (p : Row → Bool) (rows : List Row) → ((i : ℕ) (x : Row) → slice_get rows i ≡ Some x → p x ≡ false) → length (filter p rows) ≡ 0
queued_none p [] h = refl
queued_none p (x ∷ rows) h =
    let a = matching-more p x rows in
    let b = queued_none p rows (λ i y e. h (suc i) y e) in
    let n : cond (p x) 1 0 ≡ 0 = ap {B = ℕ} (λ t. cond t 1 0) (h 0 x refl) in
    omega (arith, a, b, n)

pub batch_queued : (w : WorldState) (first : ℕ) (es : List Sqe) (i : ℕ) (x : Row) → slice_get (rows_of w first es) i ≡ Some x → x.phase ≡ Queued
batch_queued w first es i x e = ap (λ (y : Row). y.phase) (became w first es i x e).is

pub counted-rows_of : (w : WorldState) (first : ℕ) (es : List Sqe) → counted_of (rows_of w first es) ≡ 0
counted-rows_of w first es = queued_none (λ row. is_ended row.phase && counts row) (rows_of w first es) (λ i x e. ap (λ p. is_ended p && counts x) (batch_queued w first es i x e))

-- ---- The invariant of each request

-- Each request is well formed.
pub record FormedRows (w : WorldState) (rows : List Row) : Type 0 where
  pub each : (r : ℕ) (x : Row) → slice_get rows r ≡ Some x → RowFormed w x

-- A completed request is well formed.
pub ended_row : (w : WorldState) (x : Row) → is_ended x.phase ≡ true → RowFormed w x
ended_row = grind arith

-- ---- Timeouts

-- A request gets a deadline exactly if it has a timeout.
pub deadline_timed : (clock : ℕ) (x : Row) → is_some (deadline_of clock x) ≡ is_some x.time
deadline_timed = grind arith

pub unfinished_issued : (p : Phase) → is_issued p ≡ true → is_unfinished p ≡ true
unfinished_issued = grind arith

time_of_bound : (w : WorldState) (previous : Option ℕ) (e : Sqe) → IsTime (time_of w previous e)
time_of_bound = grind (arith, common_steps)

-- A valid timer has a timeout.
passes_timed : (w : WorldState) (previous : Option ℕ) (e : Sqe) → result_err (check_of w previous e) ≡ None → is_timer e.opcode ≡ true → IsSome (time_of w previous e)
passes_timed = grind (arith, eqb-true)

-- A valid entry has a timeout exactly if it is a timer.
passes_time : (w : WorldState) (previous : Option ℕ) (e : Sqe) → result_err (check_of w previous e) ≡ None → is_some (time_of w previous e) ≡ is_timer e.opcode
passes_time = grind (arith, passes_timed)

-- The request of a valid entry is well formed.
pub batch_row : (w : WorldState) (first : ℕ) (es : List Sqe) (i : ℕ) (x : Row) → slice_get (rows_of w first es) i ≡ Some x → error_at w es i ≡ None → RowFormed w x
batch_row w first es i x e p =
    let b = became w first es i x e in
    let passes : result_err (check_of w (previous_in es i) b.entry) ≡ None = sym (ap (option_and_then (error_of w es i)) b.there) ∙ p in
    subst (RowFormed w) (sym b.is) (record {
      opcode = λ u. passes_supported w (previous_in es i) b.entry passes;
      holds = λ j. absurd cc;
      holds_none = λ j. absurd cc;
      not_yet_held = λ q. refl;
      not_yet_due = λ q. refl;
      time = λ u. time_of_bound w (previous_in es i) b.entry;
      timed = λ u. passes_time w (previous_in es i) b.entry passes;
      due = λ j. absurd cc;
    })

-- One request changes.
pub formed_rows-updated : (w : WorldState) (f : Row → Row) (rows : List Row) (r : ℕ) → ((x : Row) → slice_get rows r ≡ Some x → RowFormed w (f x)) → FormedRows w rows → FormedRows w (updated f rows r)
formed_rows-updated w f rows r g h = record { each = λ j y e. by j y (updated_get f rows r j y e) }
  where
    by : (j : ℕ) (y : Row) → (slice_get rows j ≡ Some y) ⊎ ((z : Row) × (r ≡ j) × (slice_get rows j ≡ Some z) × (y ≡ f z)) → RowFormed w y
    by = grind arith

-- The objects and the memory change, but not their setup.
row_moved : (w v : WorldState) (x : Row) → OneWorldSetup w v → RowFormed w x → RowFormed v x
row_moved = grind (arith, descriptor_alike)

pub formed_rows-moved : (w v : WorldState) (rows : List Row) → OneWorldSetup w v → FormedRows w rows → FormedRows v rows
formed_rows-moved w v rows s h = record { each = λ r x e. row_moved w v x s (h.each r x e) }
