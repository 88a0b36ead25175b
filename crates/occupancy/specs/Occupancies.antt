-- Queue occupancy and request lifetimes of a run, by its moments.
use Rattle.std.specs.Prelude.{◌≡◌, ℕ, ◌+◌, ◌<◌, ◌≤◌, min, List, length, slice_get, take, map, Bool, true, false, Option, Some, None, option_map}
use Rattle.occupancy.specs.Common.{option_map_or, Phase, is_issued, is_ended, Event, Setup, is_awake, Machine, start, moment, Accepts, Occupancy, Filling, Followed, Stamps, ThreadStages}
use Rattle.occupancy.specs.Fillings.{filling_of}

-- ---- requests

-- Whether a machine has request r, in a phase that passes the test.
abbrev pub has_row : (Phase → Bool) → ℕ → Machine → Bool
has_row test r m = option_map_or (λ row. test row.phase) (slice_get m.table r) false

-- Passes every phase.
abbrev pub any_phase : Phase → Bool
any_phase phase = true

-- The first of the moments 0 to n at which something holds, or None if it holds at none.
abbrev pub IsFirst : (ℕ → Bool) → ℕ → Option ℕ → Type 0
IsFirst holds n None = (i : ℕ) → i ≤ n → holds i ≡ false
IsFirst holds n (Some k) = (k ≤ n) × (holds k ≡ true) × ((i : ℕ) → i < k → holds i ≡ false)

-- The first of the moments 0 to n at which request r existed, was issued, and was complete.
pub record IsStamped (s : Setup) (es : List Event) (n r : ℕ) (x : Stamps) : Type 0 where
  pub queued : IsFirst (λ i. has_row any_phase r (moment s es i)) n (Some x.queued)
  pub issued : IsFirst (λ i. has_row is_issued r (moment s es i)) n x.issued
  pub ended : IsFirst (λ i. has_row is_ended r (moment s es i)) n x.ended

-- Each request of moment n has its lifetime, and there are no others.
pub record AreStamped (s : Setup) (es : List Event) (n : ℕ) (xs : List Stamps) : Type 0 where
  pub rows : length xs ≡ length (moment s es n).table
  pub each : (r : ℕ) (x : Stamps) → slice_get xs r ≡ Some x → IsStamped s es n r x

-- ---- moments

-- The occupancy at each of the moments 0 to n.
pub record AreFilled (s : Setup) (es : List Event) (n : ℕ) (fs : List Filling) : Type 0 where
  pub count : length fs ≡ n + 1
  pub each : (i : ℕ) → i ≤ n → slice_get fs i ≡ Some (filling_of (moment s es i))

-- ---- runs

-- The occupancy and the lifetimes after the first n events, none of which is refused.
pub record IsOccupancy (s : Setup) (es : List Event) (n : ℕ) (c : Occupancy) : Type 0 where
  pub runs : Accepts (start s) (take n es)
  pub fillings : AreFilled s es n c.fillings.items
  pub stamps : AreStamped s es n c.stamps.items
  pub overflowed : c.overflowed ≡ length (moment s es n).backlog.items

-- The invariant of the record after n events. No earlier moment has more requests, and there are at
-- most 16 threads.
pub record Follows (s : Setup) (es : List Event) (n : ℕ) (c : Occupancy) : Type 0 where
  pub most : length es ≤ 1048576
  pub occupancy : IsOccupancy s es n c
  pub growing : (i : ℕ) → i ≤ n
      → length (moment s es i).table ≤ length (moment s es n).table
  pub threads : length (moment s es n).threads ≤ 16

-- The stages of the threads, and whether the poller is awake, if there is one.
pub record AreThreadStages (m : Machine) (x : ThreadStages) : Type 0 where
  pub stages : x.stages.items ≡ map (λ t. t.stage) m.threads
  pub awake : x.awake ≡ option_map is_awake m.poller

-- The result of a whole run: its record, its requests at the end, and the threads and the poller at
-- moment `at`. If the run is shorter, they are those at the end.
pub record IsFollowed (s : Setup) (es : List Event) (at : ℕ) (f : Followed) : Type 0 where
  pub occupancy : IsOccupancy s es (length es) f.occupancy
  pub rows : f.rows.items ≡ (moment s es (length es)).table
  pub thread_stages : AreThreadStages (moment s es (min at (length es))) f.thread_stages

-- The invariant of a follower after n events. The record is that of the run. Once moment `at` or
-- the end is reached, the threads and the poller are those of that moment.
pub record HasFollowed (s : Setup) (es : List Event) (n at : ℕ) (c : Occupancy) (x : ThreadStages) : Type 0 where
  pub follows : Follows s es n c
  pub thread_stages : min at (length es) ≤ n
      → AreThreadStages (moment s es (min at (length es))) x
