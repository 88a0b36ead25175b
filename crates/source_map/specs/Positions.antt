-- Lines and columns of a text.
use Rattle.std.specs.Prelude.{◌≡◌, ℕ, ◌+◌, ◌-◌, ◌*◌, ◌≤◌, ◌==◌, nat_lt, if◌then◌else◌, List, length, take, drop, fold}
use Rattle.source_map.specs.declared.cursor.Position.{Position}
use Rattle.source_map.specs.declared.cursor.Cursor.{Cursor}

-- The most bytes of a text that has positions.
abbrev pub most_bytes : ℕ
most_bytes = 8388608

-- The number of UTF-16 code units of the character that a byte of UTF-8 begins (utf-8(7)). Bytes
-- from 0x80 to 0xbf continue a character, and a byte from 0xf0 on begins one above U+FFFF, which is
-- a pair of surrogates.
abbrev pub units : ℕ → ℕ
units byte = if nat_lt byte 128 then 1 else if nat_lt byte 192 then 0 else if nat_lt byte 240 then 1 else 2

-- The position after a byte. A line feed ends a line.
abbrev pub pass : Position → ℕ → Position
pass p byte =
    if byte == 10 then record { line = p.line + 1; column = 1 }
    else record { line = p.line; column = p.column + units byte }

-- The position of the byte at an offset: its line, and one more than the UTF-16 code units before
-- it in the line.
unfoldable pub position_at : List ℕ → ℕ → Position
position_at text offset = fold pass (record { line = 1; column = 1 }) (take offset text)

abbrev pub between : List ℕ → ℕ → ℕ → List ℕ
between text start end = take (end - start) (drop start text)

-- An offset of a text, and its position.
pub record IsCursor (text : List ℕ) (c : Cursor) : Type 0 where
  pub within : c.offset ≤ length text
  pub position : c.position ≡ position_at text c.offset
  pub line : c.position.line ≤ c.offset + 1
  pub column : c.position.column ≤ 2 * c.offset + 1
