-- The encoding of unsigned integers below 2^64, small numbers in few bytes. A number below 253 is
-- one byte. Otherwise a first byte of 253, 254 or 255 is followed by 2, 4 or 8 little-endian bytes.
use Rattle.std.specs.Prelude.{ℕ, zero, suc, ℤ, ◌%◌, ◌^◌, ◌==◌, nat_lt, List, [], ◌∷◌, length, drop, if◌then◌else◌}
use Rattle.std.specs.Int.{w32, w64, cast_signed}
use Rattle.byteorder.specs.Endian.{little_number}

-- How many bytes follow the first byte of a number.
abbrev pub width_of : ℕ → ℕ
width_of b = if b == 253 then 2 else (if b == 254 then 4 else (if b == 255 then 8 else 0))

-- The little-endian number in the first n bytes, or 0 if there are fewer.
abbrev pub wide_number : ℕ → List ℕ → ℕ
wide_number n bytes = if nat_lt (length bytes) n then 0 else little_number n bytes

-- The number at the start of the bytes, or 0 if there are none.
unfoldable pub number_of : List ℕ → ℕ
number_of [] = 0
number_of (b ∷ bytes) = if width_of b == 0 then b else wide_number (width_of b) bytes

-- The bytes after that number.
unfoldable pub after : List ℕ → List ℕ
after [] = []
after (b ∷ bytes) = drop (width_of b) bytes

-- The bytes after the first n numbers.
abbrev pub after_many : ℕ → List ℕ → List ℕ
after_many zero bytes = bytes
after_many (suc n) bytes = after_many n (after bytes)

-- ---- The number at the start of the bytes, truncated to a type: u8, u16, u32, i32, i64

abbrev pub byte_of : List ℕ → ℕ
byte_of bytes = number_of bytes % 2 ^ 8

abbrev pub half_of : List ℕ → ℕ
half_of bytes = number_of bytes % 2 ^ 16

abbrev pub word_of : List ℕ → ℕ
word_of bytes = number_of bytes % 2 ^ 32

abbrev pub signed_of : List ℕ → ℤ
signed_of bytes = cast_signed w32 (word_of bytes)

abbrev pub long_of : List ℕ → ℤ
long_of bytes = cast_signed w64 (number_of bytes)
