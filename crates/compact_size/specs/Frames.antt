-- Frames. A frame is the length of some bytes as a number, and then these bytes, which encode
-- numbers. After the last of them a reader finds zeros, so zeros at the end take no bytes.
use Rattle.std.specs.Prelude.{ℕ, List, [], ◌∷◌, take, drop}
use Rattle.compact_size.specs.CompactSizes.{number_of, after}
use Rattle.compact_size.specs.Reading.{Reads, Puts}

-- The bytes in the frame at the start of the bytes.
abbrev pub framed : List ℕ → List ℕ
framed bytes = take (number_of bytes) (after bytes)

-- The bytes after that frame.
abbrev pub past_frame : List ℕ → List ℕ
past_frame bytes = drop (number_of bytes) (after bytes)

-- `new` is `old` with a frame appended whose bytes are read as the numbers `xs`.
pub record Frames (old xs new : List ℕ) : Type 0 where
  pub bytes : List ℕ
  pub put : Puts framed past_frame old (bytes ∷ []) new
  pub reads : Reads number_of after bytes xs []
