-- The rows of a changed table.
use Rattle.links_drains.proofs.Common.{◌≡◌, ◌≢◌, ℕ, zero, suc, Bool, true, false, cond, refl, ap, List, [], ◌∷◌, ◌++◌, length, take, ◌+◌, min, arith, Some, option_map, slice_get, ◌==◌, eqb-true, eq-eqb, common_steps, gets, Row, updated}

-- A row is added at the end.

pub length-push : (rows : List Row) (row : Row) → length (rows ++ row ∷ []) ≡ length rows + 1
length-push rows row = grind (arith, common_steps)

pub get-pushed : (rows : List Row) (row : Row) → slice_get (rows ++ row ∷ []) (length rows) ≡ Some row
get-pushed rows row = grind (arith, common_steps, gets)

-- A row is replaced.

pub get-updated : (f : Row → Row) (rows : List Row) (i j : ℕ) → slice_get (updated f rows i) j ≡ cond (i == j) (option_map f (slice_get rows j)) (slice_get rows j)
get-updated f rows i j = by (i == j) refl
  where
    here : (xs : List Row) (k : ℕ) → slice_get (updated f xs k) k ≡ option_map f (slice_get xs k)
    here [] k = refl
    here (x ∷ xs) zero = refl
    here (x ∷ xs) (suc k) = here xs k

    there : (xs : List Row) (k l : ℕ) → k ≢ l → slice_get (updated f xs k) l ≡ slice_get xs l
    there [] k l h = refl
    there (x ∷ xs) zero zero h = absurd (h refl)
    there (x ∷ xs) zero (suc l) h = refl
    there (x ∷ xs) (suc k) zero h = refl
    there (x ∷ xs) (suc k) (suc l) h = there xs k l (λ e. h (ap suc e))

    by : (b : Bool) → (i == j) ≡ b → slice_get (updated f rows i) j ≡ cond b (option_map f (slice_get rows j)) (slice_get rows j)
    by true h = let e : i ≡ j = eqb-true i j h in rw e (here rows j)
    by false h = there rows i j (λ e. let k = eq-eqb i j e in cc)

-- Rows are dropped from the end.

pub length-dropped : (rows : List Row) (n : ℕ) → length (take n rows) ≡ min n (length rows)
length-dropped rows n = grind (arith, common_steps)
