-- The initial memory of a script.
use Rattle.std.specs.Prelude.{ℕ, ◌+◌, nat_le, List, [], ◌∷◌, ◌++◌, length, take, drop, replicate, Bool, if◌then◌else◌, Option, Some, None, option_map, Result}
use Rattle.std.specs.Result.{result_ok}
use Rattle.hex.specs.Hex.{decode_of}
use Rattle.serde_json.specs.Data.{Data, string}
use Rattle.script.specs.declared.fault.Key.TheVariants as key
use Rattle.script.specs.declared.fault.ScriptFault.{ScriptFault}
use Rattle.script.specs.declared.memory.Piece.{Piece}
use Rattle.script.specs.declared.number.Whole.{Whole}
use Rattle.script.specs.declared.number.Whole.TheVariants.{Natural, Negative}
use Rattle.script.specs.Entries.{◌>>=◌}
use Rattle.script.specs.Faults as faults
use Rattle.script.specs.Faults.{at_item, form_limits_ranges}
use Rattle.script.specs.Lists.{of_list, list_at, folded}
use Rattle.script.specs.Numbers.{whole_of}

-- The bytes in a text of hex digits, in either case.
abbrev pub bytes_of : Data → Option (List ℕ)
bytes_of (string text) = result_ok (decode_of text)
bytes_of _ = None

-- The address, if all of the bytes fit into the 65,536 bytes of memory.
abbrev pub placed : List ℕ → Whole → Option ℕ
placed bytes (Natural n) = if nat_le (n + length bytes) 65536 then Some n else None
placed bytes (Negative z) = None

-- A piece: a list of an address and its bytes.
abbrev pub piece_words : List Data → Option Piece
piece_words (a ∷ x ∷ []) = whole_of a >>= λ address. option_map (λ bytes. record { address = address; bytes = bytes }) (bytes_of x)
piece_words _ = None

-- A piece in a JSON value, without range checks.
abbrev pub piece_form : Data → Option Piece
piece_form d = of_list piece_words d

-- Whether a piece has at most 65,536 bytes.
abbrev pub is_short : Piece → Bool
is_short piece = nat_le (length piece.bytes) 65536

-- Overwrites bytes with others, from index `at` on.
abbrev pub overwritten : List ℕ → ℕ → List ℕ → List ℕ
overwritten bytes at others = take at bytes ++ (others ++ drop (at + length others) bytes)

-- Memory after a piece is written.
abbrev pub with_piece : List ℕ → Piece → Option (List ℕ)
with_piece memory piece = option_map (λ address. overwritten memory address piece.bytes) (placed piece.bytes piece.address)

-- Memory after item i is written.
abbrev pub piece_at : List ℕ → ℕ → Data → Result (List ℕ) ScriptFault
piece_at memory i d = form_limits_ranges (at_item key.Memory i) (piece_form d) is_short (with_piece memory)

-- n zero bytes.
unfoldable pub zeros : ℕ → List ℕ
zeros n = replicate n 0

-- The memory: zeros, over which the pieces are written in order.
abbrev pub memory_of : Option Data → Result (List ℕ) ScriptFault
memory_of d = faults.◌>>=◌ (list_at key.Memory d) (folded piece_at (zeros 65536) 0)
