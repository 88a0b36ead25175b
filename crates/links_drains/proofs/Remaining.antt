-- Requests retain their entry and chain when the table changes.
use Rattle.links_drains.proofs.Common.{◌≡◌, ℕ, sym, ◌∙◌, ap, List, ◌++◌, length, map, take, ◌<◌, ◌≤◌, arith, Some, None, option_map, slice_get, slice_set, cases_lt, common_steps, length-map, gets, slice_get-map, Row, same_list, field_same, slice_get-take_below, slice_get-take_above, fixed_of, Stay}
use Rattle.links_drains.proofs.Fixed.{fixed_at}

pub stay_then : (a b c : List Row) → length a ≤ length b → Stay a b → Stay b c → Stay a c
stay_then a b c n h k r l = k r (omega (arith, n, l)) ∙ h r l

-- A row is replaced by one with the same entry and chain.
pub stay_set : (rows : List Row) (i : ℕ) (row : Row) → option_map fixed_of (slice_get rows i) ≡ Some (fixed_of row) → Stay rows (slice_set rows i row)
stay_set rows i row h r l = let f = fixed_at rows i row h in field_same fixed_of rows i r f.before row f.there f.same

get_before : (rows more : List Row) (r : ℕ) → r < length rows → slice_get (rows ++ more) r ≡ slice_get rows r
get_before rows more r h = grind (arith, common_steps, gets)

-- Rows are added at the end.
pub stay_append : (rows more : List Row) → Stay rows (rows ++ more)
stay_append rows more r l = ap (option_map fixed_of) (get_before rows more r l)

past : (rows : List Row) (r : ℕ) → length rows ≤ r → slice_get rows r ≡ None
past rows r h = grind (arith, common_steps, gets)

-- Without the added rows, the fixed fields are the same as before.
pub stay_cut : (rows next : List Row) (n : ℕ) → n ≡ length rows → Stay rows next → map fixed_of rows ≡ map fixed_of (take n next)
stay_cut = grind (arith, same_list, slice_get-map, cases_lt, slice_get-take_below, past, slice_get-take_above)

-- A row may be replaced by the row that was there before.
pub was_fixed : (rows now : List Row) (i : ℕ) (x : Row) → map fixed_of rows ≡ map fixed_of now → slice_get rows i ≡ Some x → option_map fixed_of (slice_get now i) ≡ Some (fixed_of x)
was_fixed rows now i x e h = sym (slice_get-map fixed_of now i) ∙ ap (λ fs. slice_get fs i) (sym e) ∙ slice_get-map fixed_of rows i ∙ ap (option_map fixed_of) h

-- The tables have the same length.
pub as_many : (rows now : List Row) → map fixed_of rows ≡ map fixed_of now → length rows ≡ length now
as_many rows now e = simp length-map at (ap length e)
