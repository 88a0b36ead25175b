-- Copies of what a search has seen.
use Rattle.std.specs.Prelude.{◌≡◌}
use Rattle.findings.specs.Common.{Durability}

-- The same WRITEs, suspect bytes and findings.
pub record IsCopy (old new : Durability) : Type 0 where
  pub writes : new.writes.items ≡ old.writes.items
  pub suspects : new.suspects.items ≡ old.suspects.items
  pub retried : new.retried.items ≡ old.retried.items
