-- How a batch of submitted entries becomes requests (io_uring_enter(2)).
use Rattle.std.specs.Prelude.{◌≡◌, ℕ, zero, suc, ℤ, ◌+◌, ◌-◌, ◌==◌, Bool, false, not, ◌&&◌, if◌then◌else◌, Option, Some, None, is_none, is_some, slice_get, List, drop, take}
use Rattle.links_drains.specs.Common.{Row, prefix_len, list_any, option_and_then, option_map_or, Sqe}
use Rattle.std.specs.Result.{result_err}
use Rattle.model_files.specs.Worlds.{WorldState}
use Rattle.opcodes.specs.Check.{check_of, time_of}
use Rattle.links_drains.specs.Endings.{Ending, ecanceled, given, or_else, endings_from}
use Rattle.links_drains.specs.Numbered.{any_numbered, map_numbered}
use Rattle.links_drains.specs.Links.{is_linked}
use Rattle.links_drains.specs.Rows.{new_row}

-- ---- Chains

-- The index of the first entry of entry i's chain. An entry after a linked one belongs to the same
-- chain; any other begins one.
abbrev pub chain_of : List Sqe → ℕ → ℕ
chain_of entries zero = zero
chain_of entries (suc i) =
    if option_map_or is_linked (slice_get entries i) false then chain_of entries i else suc i

-- The opcode of an entry, if the next entry belongs to its chain.
abbrev pub shown_on : Sqe → Option ℕ
shown_on entry = if is_linked entry then Some entry.opcode else None

-- The opcode of the entry before entry i in its chain; none if entry i begins the chain.
abbrev pub previous_in : List Sqe → ℕ → Option ℕ
previous_in entries zero = None
previous_in entries (suc i) = option_and_then shown_on (slice_get entries i)

-- ---- Entries that fail

-- The error with which an entry fails as it is submitted, if any.
abbrev pub error_of : WorldState → List Sqe → ℕ → Sqe → Option ℤ
error_of w entries i entry = result_err (check_of w (previous_in entries i) entry)

-- The error of entry i, if there is such an entry and it fails.
abbrev pub error_at : WorldState → List Sqe → ℕ → Option ℤ
error_at w entries i = option_and_then (error_of w entries i) (slice_get entries i)

-- The errors of all entries.
abbrev pub errors_of : WorldState → List Sqe → List (Option ℤ)
errors_of w entries = map_numbered (error_of w entries) entries

-- Whether a failing entry stops the submission: some entry fails, and the ring was set up without
-- IORING_SETUP_SUBMIT_ALL (io_uring_setup(2)).
abbrev pub halts : Bool → WorldState → List Sqe → Bool
halts submit_all w entries = not submit_all && list_any is_some (errors_of w entries)

-- ---- Entries that are consumed

-- The entries up to and including the first that fails.
abbrev pub up_to_failure : WorldState → List Sqe → List Sqe
up_to_failure w entries = take (prefix_len is_none (errors_of w entries) + 1) entries

-- The entries that become requests: all of them with IORING_SETUP_SUBMIT_ALL.
abbrev pub taken_of : Bool → WorldState → List Sqe → List Sqe
taken_of submit_all w entries = if submit_all then entries else up_to_failure w entries

-- ---- The requests

-- The request that a linked timeout limits: the one before it in its chain. An invalid linked
-- timeout has none.
abbrev pub target_of : WorldState → ℕ → List Sqe → ℕ → Sqe → Option ℕ
target_of w first entries i entry =
    if (entry.opcode == 15) && is_none (error_of w entries i entry) then Some (first + i - 1)
    else None

-- The request that an entry becomes.
abbrev pub row_of : WorldState → ℕ → List Sqe → ℕ → Sqe → Row
row_of w first entries i entry =
    new_row entry (first + chain_of entries i) (time_of w (previous_in entries i) entry)
    (target_of w first entries i entry)

-- The requests that the entries become. `first` is the number of the first, and each request's
-- `unit` is the number of its chain's first request.
abbrev pub rows_of : WorldState → ℕ → List Sqe → List Row
rows_of w first entries = map_numbered (row_of w first entries) entries

-- ---- Requests that complete at once

-- Whether some entry of the chain fails.
abbrev pub chain_fails : WorldState → List Sqe → ℕ → Bool
chain_fails w entries chain =
    any_numbered (λ i entry. (chain_of entries i == chain) && is_some (error_of w entries i entry))
    entries

-- The result of a request that completes as it is submitted: its own error, or ECANCELED if another
-- entry of its chain fails.
abbrev pub direct_result : WorldState → List Sqe → ℕ → Option ℤ
direct_result w entries i =
    or_else (error_at w entries i) (given (chain_fails w entries (chain_of entries i)) ecanceled)

-- The requests of a batch that complete as they are submitted, by ascending number.
abbrev pub direct_of : WorldState → ℕ → List Sqe → List Ending
direct_of w first entries =
    endings_from (λ r row. direct_result w entries (r - first)) first (rows_of w first entries)

-- ---- The list of errors. Public contracts don't use it.

-- The error of entry i, if it fails. The list ends with the last entry that fails.
abbrev pub error_in : List (Option ℤ) → ℕ → Option ℤ
error_in errors i = option_and_then (λ (error : Option ℤ). error) (slice_get errors i)

-- The rows end with the requests of the entries, and the errors are those of the entries.
pub record Submitted (w : WorldState) (entries : List Sqe) (first : ℕ) (rows : List Row) (errors : List (Option ℤ)) : Type 0 where
  pub batch : drop first rows ≡ rows_of w first entries
  pub each : (i : ℕ) → error_in errors i ≡ error_at w entries i
