-- Bytes that are read from left to right.
use Rattle.std.specs.Prelude.{ℕ, List, drop}

-- The number of bytes before a position, and the bytes from there on.
pub record Cursor : Type 0 where
  pub offset : ℕ
  pub rest : List ℕ

-- The position at an offset of bytes.
abbrev pub at_offset : List ℕ → ℕ → Cursor
at_offset bytes offset = record { offset = offset; rest = drop offset bytes }
