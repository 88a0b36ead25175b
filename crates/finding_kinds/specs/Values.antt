-- Typed values of places.
use Rattle.std.specs.Prelude.{ℕ, ◌==◌, Bool, false, not, Option, Some, None}
use Rattle.finding_kinds.specs.Common.{Value, Number, Byte}

-- The number in an optional value.
abbrev pub number_in : Option Value → Option ℕ
number_in (Some (Number n)) = Some n
number_in _ = None

-- The byte in an optional value.
abbrev pub byte_in : Option Value → Option ℕ
byte_in (Some (Byte b)) = Some b
byte_in _ = None

-- Whether both numbers are present and differ.
abbrev pub differ : Option ℕ → Option ℕ → Bool
differ (Some a) (Some b) = not (a == b)
differ _ _ = false
