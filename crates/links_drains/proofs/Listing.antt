-- The result that a list of endings has for each row.
use Rattle.links_drains.proofs.Common.{◌≡◌, ℕ, ℤ, zero, suc, refl, sym, ◌∙◌, ap, subst, List, [], ◌∷◌, ◌+◌, ◌<◌, arith, Option, Some, None, slice_get, if◌then◌else◌, option_and_then, cons_option, eq-eqb, Row, is_unfinished, result_in, paired, endings_from, endings}

-- The result that f has for an unfinished row.
abbrev pub result_of : (ℕ → Row → Option ℤ) → ℕ → Row → Option ℤ
result_of f r row = if is_unfinished row.phase then f r row else None

pub endings_step : (f : ℕ → Row → Option ℤ) (n : ℕ) (row : Row) (rows : List Row) → endings_from f n (row ∷ rows) ≡ cons_option (paired n (result_of f n row)) (endings_from f (n + 1) rows)
endings_step = grind arith

-- No row with a smaller number than the first is listed.
pub unlisted_below : (f : ℕ → Row → Option ℤ) (n : ℕ) (rows : List Row) (r : ℕ) → r < n → result_in (endings_from f n rows) r ≡ None
unlisted_below f n [] r h = refl
unlisted_below f n (row ∷ rows) r h = grind (arith, unlisted_below f (n + 1) rows r (omega arith))

-- The result listed for a row.
pub listed_from : (f : ℕ → Row → Option ℤ) (n : ℕ) (rows : List Row) (i : ℕ) → result_in (endings_from f n rows) (n + i) ≡ option_and_then (result_of f (n + i)) (slice_get rows i)
listed_from f n [] i = refl
listed_from f n (row ∷ rows) zero = grind (arith, endings_step, unlisted_below, eq-eqb)
listed_from f n (row ∷ rows) (suc i) = grind (arith, listed_from f (n + 1) rows i)

pub listed_at : (f : ℕ → Row → Option ℤ) (rows : List Row) (r : ℕ) → result_in (endings f rows) r ≡ option_and_then (result_of f r) (slice_get rows r)
listed_at f rows r = let m : 0 + r ≡ r = omega arith in subst (λ k. result_in (endings f rows) k ≡ option_and_then (result_of f k) (slice_get rows r)) m (listed_from f 0 rows r)

-- Two functions with the same results for all unfinished rows yield the same list.
alike_from : (f g : ℕ → Row → Option ℤ) (n : ℕ) (rows : List Row) → ((i : ℕ) (row : Row) → slice_get rows i ≡ Some row → result_of f (n + i) row ≡ result_of g (n + i) row) → endings_from f n rows ≡ endings_from g n rows
alike_from f g n [] h = refl
alike_from f g n (row ∷ rows) h =
    let m : n + zero ≡ n = omega arith in
    let first : result_of f n row ≡ result_of g n row = subst (λ k. result_of f k row ≡ result_of g k row) m (h zero row refl) in
    let rest : endings_from f (n + 1) rows ≡ endings_from g (n + 1) rows = alike_from f g (n + 1) rows (λ i x e. let k : n + suc i ≡ n + 1 + i = omega arith in subst (λ j. result_of f j x ≡ result_of g j x) k (h (suc i) x e)) in
    endings_step f n row rows
    ∙ ap (λ o. cons_option (paired n o) (endings_from f (n + 1) rows)) first
    ∙ ap (cons_option (paired n (result_of g n row))) rest
    ∙ sym (endings_step g n row rows)

pub alike : (f g : ℕ → Row → Option ℤ) (rows : List Row) → ((r : ℕ) (row : Row) → slice_get rows r ≡ Some row → result_of f r row ≡ result_of g r row) → endings f rows ≡ endings g rows
alike f g rows h = alike_from f g 0 rows (λ i row e. let m : i ≡ 0 + i = omega arith in subst (λ k. result_of f k row ≡ result_of g k row) m (h i row e))
