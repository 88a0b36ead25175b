-- How bytes are split into lines.
use Rattle.std.specs.Prelude.{ℕ, ◌==◌, List, [], ◌∷◌, Bool, true, false, if◌then◌else◌}

-- Prepends a byte to the first line. If there are no lines, the byte starts the last line, which
-- exists only if `last` is true.
abbrev pub onto_line : Bool → ℕ → List (List ℕ) → List (List ℕ)
onto_line last b [] = if last then (b ∷ []) ∷ [] else []
onto_line last b (l ∷ ls) = (b ∷ l) ∷ ls

-- The lines of some bytes; a newline ends each. If `last` is true, bytes after the last newline are
-- a line too, unless there are none.
abbrev pub lines_by : Bool → List ℕ → List (List ℕ)
lines_by last [] = []
lines_by last (b ∷ bs) = if b == 10 then [] ∷ lines_by last bs else onto_line last b (lines_by last bs)

-- The lines of a whole input.
abbrev pub lines_of : List ℕ → List (List ℕ)
lines_of bytes = lines_by true bytes

-- The complete lines of a prefix of the input.
abbrev pub ended_lines : List ℕ → List (List ℕ)
ended_lines bytes = lines_by false bytes
