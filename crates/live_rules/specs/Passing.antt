-- Searches among requests, and deadlines.
use Rattle.std.specs.Prelude.{◌≡◌, ℕ, ◌<◌, ◌≤◌, Bool, true, false, nat_le, Option, Some, List, slice_get}
use Rattle.std.specs.Option.{option_map_or}
use Rattle.entries.specs.declared.row.Row.{Row}
use Rattle.links_drains.specs.Phases.{is_ended}
use Rattle.machine.specs.Deadlines.{deadline_at}

-- r is an index from `from` on, and no index from `from` up to r passes the test.
pub record IsNextRow (test : ℕ → Bool) (count from r : ℕ) : Type 0 where
  pub after : from ≤ r
  pub within : r < count
  pub least : (k : ℕ) → from ≤ k → k < r → test k ≡ false

-- Some issued request has the deadline d, and none has an earlier one.
pub record IsLeastDeadline (rows : List Row) (d : ℕ) : Type 0 where
  pub row : ℕ
  pub due : deadline_at rows row ≡ Some d
  pub least : (k e : ℕ) → deadline_at rows k ≡ Some e → d ≤ e

-- Whether there is a deadline and the clock has reached it.
abbrev pub is_reached : ℕ → Option ℕ → Bool
is_reached clock deadline = option_map_or (λ d. nat_le d clock) deadline false

-- Every request below `first` exists and has completed.
pub record EndedBelow (rows : List Row) (first : ℕ) : Type 0 where
  pub each : (r : ℕ) → r < first
      → (row : Row) × (slice_get rows r ≡ Some row) × (is_ended row.phase ≡ true)
