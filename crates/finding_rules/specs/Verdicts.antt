-- Verdicts by the end of a run.
use Rattle.std.specs.Prelude.{ℕ, Bool, false, List, slice_get}
use Rattle.finding_rules.specs.Common.{option_map_or, has, Kind, Conflict, FsyncEarly}
use Rattle.finding_rules.specs.AtEnd.{fault_if}

-- Whether the set of object o, one of a list of sets of bytes, has byte k.
abbrev pub is_marked : List (List ℕ) → ℕ → ℕ → Bool
is_marked sets o k = option_map_or (λ (set : List ℕ). has set k) (slice_get sets o) false

-- The kind of a finding about request q, once it is known which WRITEs are lost: an FSYNC that
-- completed too early is a fault if the WRITE is lost, else a note.
abbrev pub judged_kind : (ℕ → Bool) → Kind → ℕ → Kind
judged_kind lost (Conflict (FsyncEarly verdict)) q = Conflict (FsyncEarly (fault_if (lost q)))
judged_kind lost kind q = kind
