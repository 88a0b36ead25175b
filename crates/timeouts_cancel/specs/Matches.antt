-- Which requests a cancellation or a removal matches, defined over all requests (io_uring_enter(2),
-- IORING_OP_ASYNC_CANCEL, IORING_OP_POLL_REMOVE and IORING_OP_TIMEOUT_REMOVE).
use Rattle.std.specs.Prelude.{◌≡◌, ℕ, ℤ, ◌<◌, ◌≤◌, ◌==◌, Bool, true, false, not, ◌&&◌, if◌then◌else◌, Option, Some, None, length, slice_get, List}
use Rattle.entries.specs.declared.row.Row.{Row}
use Rattle.model_files.specs.Worlds.{WorldState}
use Rattle.opcodes.specs.Outcomes.{is_running}
use Rattle.links_drains.specs.Links.{is_guard}
use Rattle.links_drains.specs.Numbered.{numbered_where, numbers_where}
use Rattle.links_drains.specs.Phases.{is_issued}
use Rattle.timeouts_cancel.specs.Cascades.{is_number}
use Rattle.timeouts_cancel.specs.declared.matching.Key.{Key}
use Rattle.timeouts_cancel.specs.declared.matching.Key.TheVariants.{User, Fd, Poll, Timeout}
use Rattle.timeouts_cancel.specs.declared.matching.Found.{Found}
use Rattle.timeouts_cancel.specs.declared.matching.Found.TheVariants.{Absent, Running, Waiting}

-- Whether the request holds this descriptor, which may be closed.
abbrev pub holds_number : Option ℕ → ℤ → Bool
holds_number None number = false
holds_number (Some fd) number = is_number number fd

-- Whether a request fits the key: any request by its user_data or its descriptor, a POLL_ADD or a
-- TIMEOUT by its user_data.
abbrev pub fits_key : Key → Row → Bool
fits_key (User n) row = row.entry.user_data == n
fits_key (Fd number) row = holds_number row.held number
fits_key (Poll n) row = (row.entry.opcode == 6) && (row.entry.user_data == n)
fits_key (Timeout n) row = (row.entry.opcode == 11) && (row.entry.user_data == n)

-- Whether request r matches: it is issued, fits the key, and is neither a LINK_TIMEOUT nor the
-- request `me` that searches.
abbrev pub is_match : Key → ℕ → ℕ → Row → Bool
is_match key me r row =
    is_issued row.phase && (not (is_guard row) && (not (r == me) && fits_key key row))

-- All matches with their numbers, ascending.
abbrev pub matches_of : List Row → Key → ℕ → List (ℕ × Row)
matches_of rows key me = numbered_where (is_match key me) rows

-- ---- What is found

-- A match, if there is one, as running or waiting.
abbrev pub found_first : WorldState → Option (ℕ × Row) → Found
found_first w None = Absent
found_first w (Some p) = if is_running w p.1 then Running p.0 else Waiting p.0

-- The first match, by number.
abbrev pub found_by : List Row → WorldState → Key → ℕ → Found
found_by rows w key me = found_first w (slice_get (matches_of rows key me) 0)

-- Whether the request matches, and waits.
abbrev pub is_waiting_match : WorldState → Key → ℕ → ℕ → Row → Bool
is_waiting_match w key me r row = is_match key me r row && not (is_running w row)

-- The numbers of all matches that wait, ascending.
abbrev pub waiting_by : List Row → WorldState → Key → ℕ → List ℕ
waiting_by rows w key me = numbers_where (is_waiting_match w key me) rows

-- ---- Finding matches one by one

-- r is the first match from a number on.
pub record IsNextMatch (rows : List Row) (key : Key) (me from r : ℕ) (row : Row) : Type 0 where
  pub after : from ≤ r
  pub there : slice_get rows r ≡ Some row
  pub matching : is_match key me r row ≡ true
  pub least : (i : ℕ) (x : Row) → from ≤ i → i < r → slice_get rows i ≡ Some x
      → is_match key me i x ≡ false

-- Nothing matches from a number on.
abbrev pub NoMatchFrom : List Row → Key → ℕ → ℕ → Type 0
NoMatchFrom rows key me from =
    (i : ℕ) (x : Row) → from ≤ i → slice_get rows i ≡ Some x → is_match key me i x ≡ false

-- Request r doesn't match.
abbrev pub NoMatch : List Row → Key → ℕ → ℕ → Type 0
NoMatch rows key me r = (row : Row) → slice_get rows r ≡ Some row → is_match key me r row ≡ false

-- It does, and p is the request with its number.
pub record IsMatch (rows : List Row) (key : Key) (me r : ℕ) (p : ℕ × Row) : Type 0 where
  pub number : p.0 ≡ r
  pub there : slice_get rows r ≡ Some p.1
  pub matching : is_match key me r p.1 ≡ true

-- r is the first request from a number on that may match.
pub record IsNextCandidate (rows : List Row) (key : Key) (from r : ℕ) : Type 0 where
  pub after : from ≤ r
  pub within : r < length rows
  pub skipped : (me i : ℕ) (x : Row) → from ≤ i → i < r → slice_get rows i ≡ Some x
      → is_match key me i x ≡ false

-- No request from a number on can match.
abbrev pub NoCandidateFrom : List Row → Key → ℕ → Type 0
NoCandidateFrom rows key from =
    (me i : ℕ) (x : Row) → from ≤ i → slice_get rows i ≡ Some x → is_match key me i x ≡ false

-- The user_data that the key requires.
abbrev pub user_of : Key → Option ℕ
user_of (User n) = Some n
user_of (Fd number) = None
user_of (Poll n) = Some n
user_of (Timeout n) = Some n

-- The first match from `end` on, if there is one. It isn't below `from`.
abbrev pub FoundPast : List Row → Key → ℕ → ℕ → ℕ → Option (ℕ × Row) → Type 0
FoundPast rows key me from end None = NoMatchFrom rows key me end
FoundPast rows key me from end (Some p) = (from ≤ p.0) × IsNextMatch rows key me end p.0 p.1

-- The requests from `from` up to, but not including, `at` were examined, and don't match.
pub record Passed (rows : List Row) (key : Key) (me from at : ℕ) : Type 0 where
  pub after : from ≤ at
  pub none : (i : ℕ) (x : Row) → from ≤ i → i < at → slice_get rows i ≡ Some x
      → is_match key me i x ≡ false
