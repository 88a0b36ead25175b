-- Counting the requests and the overflowed completions of a machine.
use Rattle.occupancy.proofs.Common.{◌≡◌, ℕ, ◌+◌, ◌<◌, ◌≤◌, zero, suc, true, false, List, [], ◌∷◌, ◌++◌, length, map, take, refl, Option, Some, None, is_some, option_map, slice_get, Row, is_ended, Value, Requested, Machine, WellFormed, ap, arith, length-filter, count_by-le-length}

-- An index with a value is within the list.
pub within_list : {X : Type 0} (f : X → Value) (xs : List X) (i : ℕ) (o : Option Value) → o ≡ option_map f (slice_get xs i) → is_some o ≡ true → i < length xs
within_list f [] i o e h = let k = ap is_some e in absurd cc
within_list f (x ∷ xs) zero o e h = omega arith
within_list f (x ∷ xs) (suc i) o e h = let l = within_list f xs i o e h in omega (arith, l)

-- An index without a value is past the end of the list.
pub beyond_list : {X : Type 0} (f : X → Value) (xs : List X) (i : ℕ) (o : Option Value) → o ≡ option_map f (slice_get xs i) → is_some o ≡ false → length xs ≤ i
beyond_list f [] i o e h = omega arith
beyond_list f (x ∷ xs) zero o e h = let k = ap is_some e in absurd cc
beyond_list f (x ∷ xs) (suc i) o e h = let l = beyond_list f xs i o e h in omega (arith, l)

-- A run has at most 65,536 requests, each of which overflows at most once.
pub few_kept : (m : Machine) → WellFormed m → length m.backlog.items ≤ 65536
few_kept m f =
    let kept = f.mostly.kept.overflowed in
    let rows = f.mostly.table.few in
    let some = length-filter (λ (row : Row). is_ended row.phase) m.table in
    let most = count_by-le-length (λ (row : Row). is_ended row.phase) m.table in
    omega (arith, kept, rows, some, most)

pub requested_is : (o : Option Row) (row : Row) → option_map Requested o ≡ Some (Requested row) → o ≡ Some row
requested_is None row h = absurd cc
requested_is (Some x) row h = let e : x ≡ row = cc in ap Some e

-- Mapping one more element, if there is one.
pub map_next : {X Y : Type 0} (f : X → Y) (xs : List X) (i : ℕ) (y : Y) → option_map f (slice_get xs i) ≡ Some y → take (suc i) (map f xs) ≡ take i (map f xs) ++ y ∷ []
map_next f [] i y e = absurd cc
map_next f (x ∷ xs) zero y e = let k : f x ≡ y = cc in ap (λ z. z ∷ []) k
map_next f (x ∷ xs) (suc i) y e = ap (λ ys. f x ∷ ys) (map_next f xs i y e)

-- At the end of the list there is no further element.
pub map_ended : {X Y : Type 0} (f : X → Y) (xs : List X) (i : ℕ) → option_map f (slice_get xs i) ≡ None → take (suc i) (map f xs) ≡ take i (map f xs)
map_ended f [] zero e = refl
map_ended f [] (suc i) e = refl
map_ended f (x ∷ xs) zero e = absurd cc
map_ended f (x ∷ xs) (suc i) e = ap (λ ys. f x ∷ ys) (map_ended f xs i e)
