-- Which requests complete in a step, and with what results: the direct completions, which the step
-- itself causes, and their cascade (io_uring_enter(2)).
use Rattle.std.specs.Prelude.{◌≡◌, ℕ, ℤ, pos, negsuc, ◌+◌, ◌==◌, Bool, true, false, not, ◌&&◌, ◌||◌, nat_lt, if◌then◌else◌, Option, Some, None, slice_get, List, length}
use Rattle.std.specs.Option.{option_map_or}
use Rattle.std.specs.List.{filter, list_any}
use Rattle.entries.specs.declared.row.Row.{Row}
pub use Rattle.links_drains.specs.Counts.{is_count_timeout, is_met}
use Rattle.links_drains.specs.Endings.{Ending, ecanceled, result_in, is_listed, given, or_else, endings}
use Rattle.links_drains.specs.Links.{is_soft_linked, is_guard}
use Rattle.links_drains.specs.Phases.{is_unfinished, counts}

-- ---- Requests and results

-- READ or WRITE.
abbrev pub is_transfer : ℕ → Bool
is_transfer opcode = (opcode == 22) || (opcode == 23)

abbrev pub is_negative : ℤ → Bool
is_negative (pos n) = false
is_negative (negsuc n) = true

-- Whether the result is the number m.
abbrev pub is_number : ℤ → ℕ → Bool
is_number (pos n) m = n == m
is_number (negsuc n) m = false

-- Whether a result is a failure that severs a chain: for READ and WRITE, any result but the full
-- length; for LINK_TIMEOUT, none; for all others, a negative result.
abbrev pub is_bad : Row → ℤ → Bool
is_bad row res =
    if is_transfer row.entry.opcode then not (is_number res row.entry.len)
    else not (is_guard row) && is_negative res

-- ---- The rules of the cascade

-- The listed requests, and those for which f has a result. A listed request retains its result.
abbrev pub joined : List Row → (ℕ → Row → Option ℤ) → List Ending → List Ending
joined rows f es = endings (λ r row. or_else (result_in es r) (f r row)) rows

-- The listed requests, and those that pass the test, with result `res`. A listed request retains
-- its result.
abbrev pub adding : List Row → (ℕ → Row → Bool) → ℤ → List Ending → List Ending
adding rows test res es = joined rows (λ r row. given (test r row) res) es

-- Whether a listed request severs r: it comes earlier in r's chain, has IOSQE_IO_LINK, and failed.
abbrev pub severs_by : ℕ → Row → Option Row → Ending → Bool
severs_by r row None e = false
severs_by r row (Some before) e =
    nat_lt e.0 r && ((before.unit == row.unit) && (is_soft_linked before && is_bad before e.1))

-- Whether some listed request severs r.
abbrev pub is_severed : List Row → List Ending → ℕ → Row → Bool
is_severed rows es r row = list_any (λ (e : Ending). severs_by r row (slice_get rows e.0) e) es

-- How many of the listed completions count for TIMEOUTs.
abbrev pub counted_in : List Row → List Ending → ℕ
counted_in rows es =
    length (filter (λ (e : Ending). option_map_or counts (slice_get rows e.0) false) es)

-- Whether the request is the linked timeout of a listed one.
abbrev pub guards_listed : List Ending → Row → Bool
guards_listed es row = is_guard row && option_map_or (is_listed es) row.target false

-- The direct completions.
abbrev pub first_listed : List Row → List Ending → List Ending
first_listed rows direct = endings (λ r row. result_in direct r) rows

-- Those, and the later requests of each chain that a failure severs, with ECANCELED.
abbrev pub with_severed : List Row → List Ending → List Ending
with_severed rows es = adding rows (is_severed rows es) ecanceled es

-- Those, and the TIMEOUTs whose count is now reached, with 0.
abbrev pub with_met : List Row → ℕ → List Ending → List Ending
with_met rows counted es =
    adding rows (λ r row. is_met (counted + counted_in rows es) row) (pos 0) es

-- Those, and the linked timeouts whose target completes, with ECANCELED.
abbrev pub with_guards : List Row → List Ending → List Ending
with_guards rows es = adding rows (λ r row. guards_listed es row) ecanceled es

-- All requests that complete in the step, by ascending number.
abbrev pub fall_of : List Row → ℕ → List Ending → List Ending
fall_of rows counted direct =
    with_guards rows (with_met rows counted (with_severed rows (first_listed rows direct)))

-- The target of an unfinished linked timeout is not a linked timeout.
abbrev pub GuardsFormed : List Row → Type 0
GuardsFormed rows =
    (r t : ℕ) (row target : Row) → slice_get rows r ≡ Some row → is_guard row ≡ true
    → is_unfinished row.phase ≡ true → row.target ≡ Some t → slice_get rows t ≡ Some target
    → is_guard target ≡ false

-- The list is complete: applying the rules to it again adds nothing.
pub record IsWhole (rows : List Row) (counted : ℕ) (direct es : List Ending) : Type 0 where
  pub listed : joined rows (λ r row. result_in direct r) es ≡ es
  pub severed : with_severed rows es ≡ es
  pub met : with_met rows counted es ≡ es
  pub guards : with_guards rows es ≡ es

-- An unfinished linked timeout that has a target comes directly after it.
abbrev pub GuardsAreLinked : List Row → Type 0
GuardsAreLinked rows =
    (r t : ℕ) (row : Row) → slice_get rows r ≡ Some row → is_guard row ≡ true
    → is_unfinished row.phase ≡ true → row.target ≡ Some t → t + 1 ≡ r
