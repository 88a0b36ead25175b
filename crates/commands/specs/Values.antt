-- The values of places, as words.
use Rattle.std.specs.Prelude.{ℕ, pos, neg_ℤ, ◌+◌, ◌*◌, ◌-◌, ◌^◌, ◌==◌, ◌&&◌, List, [], ◌∷◌, nat_lt, nat_le, if◌then◌else◌, Option, Some, None, option_map}
use Rattle.std.specs.Option.{option_and_then}
use Rattle.std.specs.Str.Parse.{digits_value}
use Rattle.places.specs.declared.place.Place.{Place}
use Rattle.places.specs.declared.place.Place.TheVariants.{MemoryByte, FileByte, DurableByte, PipeByte, Last}
use Rattle.places.specs.declared.value.Value.{Value}
use Rattle.places.specs.declared.value.Value.TheVariants.{Number, Signed, Byte}
use Rattle.places.specs.Places.{is_number}
use Rattle.scenario.specs.Names.{is_numeral}

-- The number in a decimal word, if it is below 2 ^ 64.
abbrev pub wide_number_of : List ℕ → Option ℕ
wide_number_of word = if is_numeral word && nat_lt (digits_value 10 word) (2 ^ 64) then Some (digits_value 10 word) else None

-- A value for a signed place. A number beyond the signed 64-bit range becomes a Number, which never
-- equals a signed value.
abbrev pub positive : ℕ → Value
positive n = if nat_lt n (2 ^ 63) then Signed (pos n) else Number n

-- The same for a number after a minus sign. -0 is invalid.
abbrev pub negative : ℕ → Option Value
negative n = if n == 0 then None else if nat_le n (2 ^ 63) then Some (Signed (neg_ℤ (pos n))) else Some (Number n)

-- A decimal number with an optional minus sign. -0 is invalid.
abbrev pub signed_value : List ℕ → Option Value
signed_value [] = None
signed_value (b ∷ bs) = if b == 45 then option_and_then negative (wide_number_of bs) else option_map positive (wide_number_of (b ∷ bs))

-- A lower-case hex digit.
abbrev pub hex_digit : ℕ → Option ℕ
hex_digit b =
    if nat_le 48 b && nat_le b 57 then Some (b - 48)
    else if nat_le 97 b && nat_le b 102 then Some (b - 87)
    else None

-- The byte with these two digits, the high one first.
abbrev pub byte_by : Option ℕ → Option ℕ → Option Value
byte_by (Some a) (Some b) = Some (Byte (16 * a + b))
byte_by _ _ = None

-- A byte as two lower-case hex digits.
abbrev pub byte_value : List ℕ → Option Value
byte_value (a ∷ b ∷ []) = byte_by (hex_digit a) (hex_digit b)
byte_value _ = None

-- The value that a word denotes for a place. Places with other kinds of values have none.
abbrev pub value_of : Place → List ℕ → Option Value
value_of (MemoryByte a) word = byte_value word
value_of (FileByte o i) word = byte_value word
value_of (DurableByte o i) word = byte_value word
value_of (PipeByte o i) word = byte_value word
value_of (Last t) word = signed_value word
value_of p word = if is_number p then option_map Number (wide_number_of word) else None
