-- Lists of completions: their length, and where a row number splits them.
use Rattle.timeouts_cancel.proofs.Common.{◌≡◌, ℕ, ℤ, Bool, true, cond, refl, sym, ◌∙◌, ap, List, [], ◌∷◌, length, ◌+◌, ◌<◌, ◌≤◌, arith, Option, Some, None, slice_get, ◌==◌, take_all, slice_get_within, Row, is_unfinished, Ending, result_in, endings, endings_from, or_else, Direct, result_of, alike, ends_at, rising, joined, Rises, Splits, upto}
use Rattle.timeouts_cancel.proofs.{Again.listed_row, Sweeping.none_within, Walking.split, Walking.undirected, Walking.upto_gap}
use Rattle.std.proofs.lemmas.Grind.{common_steps}

-- ---- What a function lists

pub direct_endings : (f : ℕ → Row → Option ℤ) (rows : List Row) → Direct rows (endings f rows)
direct_endings f rows = record { each = λ i e h. let w = ends_at f rows i e h in (w.0, w.1, w.2); rising = rising f rows }

few_from : (f : ℕ → Row → Option ℤ) (n : ℕ) (rows : List Row) → length (endings_from f n rows) ≤ length rows
few_from f n [] = omega arith
few_from f n (row ∷ rows) = grind (arith, few_from f (n + 1) rows)

pub few_endings : (f : ℕ → Row → Option ℤ) (rows : List Row) → length (endings f rows) ≤ length rows
few_endings f rows = few_from f 0 rows

-- If no row from k on has a result, the completions of the first k rows are all.
pub upto_all : (f : ℕ → Row → Option ℤ) (rows : List Row) (k : ℕ) → ((r : ℕ) (row : Row) → k ≤ r → slice_get rows r ≡ Some row → result_of f r row ≡ None) → upto f rows k ≡ endings f rows
upto_all f rows k h = sym (upto_gap f rows k (length rows) (λ r row l m e. h r row l e)) ∙ ap (endings f) (take_all (k + length rows) rows (omega arith))

-- The results may be taken from the list or from the function that made it.
pub joined_listed : (f : ℕ → Row → Option ℤ) (rows : List Row) (es : List Ending) → joined rows (λ r row. result_in (endings f rows) r) es ≡ joined rows f es
joined_listed = grind (arith, alike, listed_row)

or_else_same : (o : Option ℤ) → or_else o None ≡ o
or_else_same = grind arith

pub nothing_in : (es : List Ending) → (length es == 0) ≡ true → es ≡ []
nothing_in = grind (arith, common_steps)

-- A list joined with an empty one is unchanged.
pub joined_none : (f : ℕ → Row → Option ℤ) (rows : List Row) → joined rows (λ r row. result_in [] r) (endings f rows) ≡ endings f rows
joined_none f rows = alike (λ r row. or_else (result_in (endings f rows) r) None) f rows (λ r row h. by r row h (is_unfinished row.phase) refl)
  where
    by : (r : ℕ) (row : Row) → slice_get rows r ≡ Some row → (b : Bool) → is_unfinished row.phase ≡ b → cond b (or_else (result_in (endings f rows) r) None) None ≡ cond b (f r row) None
    by = grind (arith, or_else_same, listed_row)

-- ---- Splitting a list at a row number

-- A lower bound for one completion's row holds for all later ones.
later_rows : (es : List Ending) (i n : ℕ) → Rises es → ((e : Ending) → slice_get es i ≡ Some e → n ≤ e.0) → (j : ℕ) (e : Ending) → slice_get es j ≡ Some e → i ≤ j → n ≤ e.0
later_rows = grind (arith, split, slice_get_within, none_within)

-- The split remains correct for a larger row number, up to the next completion's.
pub splits_to : (es : List Ending) (k i n : ℕ) → Rises es → Splits es k i → k ≤ n → ((e : Ending) → slice_get es i ≡ Some e → n ≤ e.0) → Splits es n i
splits_to es k i n rises s l low = record { below = λ j e h m. let x = s.below j e h m in omega (arith, x, l); above = later_rows es i n rises low }

-- If an index splits a list at two row numbers, no row between them is listed.
pub splits_out : (es : List Ending) (k n i r : ℕ) → Splits es k i → Splits es n i → k ≤ r → r < n → result_in es r ≡ None
splits_out = grind (arith, undirected)

-- If the index is past the end of the list, no row from k on is listed.
pub splits_past : (es : List Ending) (k i r : ℕ) → Splits es k i → length es ≤ i → k ≤ r → result_in es r ≡ None
splits_past es k i r s l m = undirected es r (λ j e h same. let n = slice_get_within es j e h in let x = s.below j e h (omega (arith, n, l)) in omega (arith, x, same, m))
