-- Checkpoints of a run: copies of its state at regular distances.
use Rattle.std.specs.Prelude.{◌≡◌, ℕ, ◌+◌, ◌*◌, ◌/◌, ◌<◌, ◌≤◌, List, []}
use Rattle.machine.specs.declared.whole.Machine.{Machine}

-- The states at the multiples of `every`, from moment 0 on, and how many events a jump
-- undoes at most, one by one.
pub record Checkpoints : Type 0 where
  pub every : ℕ
  pub window : ℕ
  pub states : List Machine

-- A list without checkpoints.
abbrev pub no_states : ℕ → ℕ → Checkpoints
no_states every window = record { every = every; window = window; states = [] }

-- The last multiple of `every` at or before a moment.
abbrev pub nearest : ℕ → ℕ → ℕ
nearest every moment = moment / every * every

-- `found` is the last multiple of `every` at or before `moment`.
pub record IsNearest (every moment found : ℕ) : Type 0 where
  pub times : ℕ
  pub multiple : found ≡ times * every
  pub not_above : found ≤ moment
  pub next_above : moment < found + every

-- The invariant of a list: the distance between two checkpoints is not 0.
pub record Formed (every : ℕ) : Type 0 where
  pub some : 0 < every
