-- Changes of all requests, by their numbers.
use Rattle.machine.proofs.Common.{◌≡◌, ℕ, ◌∙◌, List, length, arith, enumerate_from, length-map, Row, map_numbered, fixed_of, Stay, mapped_at}
use Rattle.std.proofs.lemmas.List.FromFn.{length-enumerate_from}

pub mapped_length : (f : ℕ → Row → Row) (rows : List Row) → length (map_numbered f rows) ≡ length rows
mapped_length f rows = length-map (enumerate_from 0 rows) (λ (p : ℕ × Row). f p.0 p.1) ∙ length-enumerate_from 0 rows

-- Requests retain their entry and chain, if the change does.
pub mapped_stay : (f : ℕ → Row → Row) (rows : List Row) → ((r : ℕ) (row : Row) → fixed_of (f r row) ≡ fixed_of row) → Stay rows (map_numbered f rows)
mapped_stay = grind (arith, mapped_at)
