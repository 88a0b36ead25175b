-- Bounds of totals.
use Rattle.std.specs.Prelude.{ℕ, ◌*◌, ◌≤◌, List, slice_index}

-- that many runs have at most 2^32 - 1 events each, and show a kind at most once each
pub record IsBounded (runs events : ℕ) (kinds : List ℕ) : Type 0 where
  pub all_events : events ≤ runs * 4294967295
  pub each_kind : (k : ℕ) → slice_index kinds k ≤ runs
