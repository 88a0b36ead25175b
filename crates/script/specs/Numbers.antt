-- Whole numbers in a JSON value, and their ranges.
use Rattle.std.specs.Prelude.{ℕ, ℤ, pos, negsuc, int_le, ◌&&◌, nat_le, nat_lt, if◌then◌else◌, Option, Some, None, Result}
use Rattle.serde_json.specs.Data.{unsigned, negative, Data, number}
use Rattle.script.specs.declared.fault.Path.{Path}
use Rattle.script.specs.declared.fault.ScriptFault.{ScriptFault}
use Rattle.script.specs.declared.number.Whole.{Whole}
use Rattle.script.specs.declared.number.Whole.TheVariants.{Natural, Negative}
use Rattle.script.specs.Faults.{form_then_ranges}

-- The whole number in a value. 1.0, 1e2 and -0 are floats, so they aren't accepted.
abbrev pub whole_of : Data → Option Whole
whole_of (number (unsigned n)) = Some (Natural n)
whole_of (number (negative z)) = Some (Negative z)
whole_of _ = None

-- The whole number of an optional member, which is 0 by default.
abbrev pub whole_or_zero : Option Data → Option Whole
whole_or_zero None = Some (Natural 0)
whole_or_zero (Some d) = whole_of d

-- The number, if it is within low..=high.
abbrev pub between : ℕ → ℕ → Whole → Option ℕ
between low high (Natural n) = if nat_le low n && nat_le n high then Some n else None
between low high (Negative z) = None

-- The number, if it is below the limit.
abbrev pub below : ℕ → Whole → Option ℕ
below limit (Natural n) = if nat_lt n limit then Some n else None
below limit (Negative z) = None

-- The number, if it fits an `i32`.
abbrev pub signed_word : Whole → Option ℤ
signed_word (Natural n) = if nat_le n 2147483647 then Some (pos n) else None
signed_word (Negative z) = if int_le (negsuc 2147483647) z && int_le z (pos 2147483647) then Some z else None

-- A whole number within low..=high.
abbrev pub number_between : Path → ℕ → ℕ → Data → Result ℕ ScriptFault
number_between p low high d = form_then_ranges p (whole_of d) (between low high)
