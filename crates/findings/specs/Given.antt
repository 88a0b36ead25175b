-- A finding under a condition.
use Rattle.std.specs.Prelude.{Bool, if◌then◌else◌, List, [], ◌∷◌}
use Rattle.findings.specs.Common.{Finding}

-- The finding if the test is true, else none.
abbrev pub given : Bool → Finding → List Finding
given test f = if test then f ∷ [] else []
