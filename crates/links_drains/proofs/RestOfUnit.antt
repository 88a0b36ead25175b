-- The rest of a chain, computed row by row.
use Rattle.links_drains.proofs.Common.{◌≡◌, ℕ, zero, suc, Bool, true, false, cond, refl, sym, ◌∙◌, ap, List, [], ◌∷◌, ◌++◌, take, length, ◌<◌, ◌≤◌, ◌+◌, inl, inr, arith, option_map_or, filter, enumerate_from, ltb-true, and_left, cases_Bool, ne_eqb, map-append, slice_get_within, slice_get_past, Row, Chained, is_open, is_rest, passes_at, rest_of}
use Rattle.std.{specs.Prelude.Option, specs.Prelude.Some, specs.Prelude.None, specs.Prelude.map, specs.Prelude.option_map, specs.Prelude.slice_get, specs.Prelude.◌==◌, specs.Prelude.◌&&◌, specs.Prelude.nat_lt, proofs.lemmas.List.Elements.filter-append}
use Rattle.links_drains.proofs.{Batching.take_more, Chains.enumerated, Units.passes_here}

-- ---- Filters of the beginning of a list

pub none_before : {X : Type 0} (p : X → Bool) (k : ℕ) (xs : List X) → ((i : ℕ) (x : X) → i < k → slice_get xs i ≡ Some x → p x ≡ false) → filter p (take k xs) ≡ []
none_before p zero xs h = refl
none_before p (suc k) [] h = refl
none_before p (suc k) (x ∷ xs) h = ap (λ b. cond b (x ∷ filter p (take k xs)) (filter p (take k xs))) (h 0 x (omega arith) refl) ∙ none_before p k xs (λ i y l e. h (suc i) y (omega (arith, l)) e)

pub none_after : {X : Type 0} (p : X → Bool) (k : ℕ) (xs : List X) → ((i : ℕ) (x : X) → k ≤ i → slice_get xs i ≡ Some x → p x ≡ false) → filter p (take k xs) ≡ filter p xs
none_after p zero [] h = refl
none_after p zero (x ∷ xs) h = sym (ap (λ b. cond b (x ∷ filter p xs) (filter p xs)) (h 0 x (omega arith) refl) ∙ sym (none_after p zero xs (λ i y l e. h (suc i) y (omega arith) e)))
none_after p (suc k) [] h = refl
none_after p (suc k) (x ∷ xs) h = ap (λ ys. cond (p x) (x ∷ ys) ys) (none_after p k xs (λ i y l e. h (suc i) y (omega (arith, l)) e))

-- ---- The rest of the chain among the first k rows

-- The test of a numbered row.
abbrev in_rest : List Row → ℕ → ℕ × Row → Bool
in_rest rows r p = is_rest rows r p.0 p.1

abbrev pub rest_to : List Row → ℕ → ℕ → List ℕ
rest_to rows r k = map (λ (other : ℕ × Row). other.0) (filter (in_rest rows r) (take k (enumerate_from 0 rows)))

-- A test that fails for a row fails for the numbered row.
pub numbered : (test : ℕ × Row → Bool) (rows : List Row) (i : ℕ) (p : ℕ × Row) → ((row : Row) → slice_get rows i ≡ Some row → test (i, row) ≡ false) → slice_get (enumerate_from 0 rows) i ≡ Some p → test p ≡ false
numbered = grind (arith, enumerated)

pub rest_start : (rows : List Row) (r : ℕ) → [] ≡ rest_to rows r (r + 1)
rest_start rows r = sym (ap (map (λ (other : ℕ × Row). other.0)) (none_before (in_rest rows r) (r + 1) (enumerate_from 0 rows)
    (λ i p l e. numbered (in_rest rows r) rows i p (λ row g. and_left _ _ (late i l)) e)))
  where
    late : (i : ℕ) → i < r + 1 → nat_lt r i ≡ false
    late i l = elim (cases_Bool (nat_lt r i)) [ inl t ↦ absurd (let x = ltb-true r i t in omega (arith, x, l)) | inr f ↦ f ]

rest_more : (rows : List Row) (r k : ℕ) (row : Row) → slice_get rows k ≡ Some row → rest_to rows r (k + 1) ≡ rest_to rows r k ++ map (λ (other : ℕ × Row). other.0) (cond (in_rest rows r (k, row)) ((k, row) ∷ []) [])
rest_more rows r k row h =
    ap (λ xs. map (λ (other : ℕ × Row). other.0) (filter (in_rest rows r) xs)) (take_more (enumerate_from 0 rows) k (k, row) (enumerated rows k ∙ ap (option_map (λ (y : Row). (k, y))) h))
    ∙ ap (map (λ (other : ℕ × Row). other.0)) (filter-append (in_rest rows r) (take k (enumerate_from 0 rows)) ((k, row) ∷ []))
    ∙ map-append (λ (other : ℕ × Row). other.0) (filter (in_rest rows r) (take k (enumerate_from 0 rows))) (cond (in_rest rows r (k, row)) ((k, row) ∷ []) [])

here_is_rest : (rows : List Row) (r k : ℕ) (head row : Row) (b : Bool) → slice_get rows r ≡ Some head → r + 1 ≤ k → row.unit ≡ head.unit → is_open row ≡ b → in_rest rows r (k, row) ≡ b
here_is_rest = grind arith

-- The next row belongs to the chain.
pub rest_on : (rows : List Row) (r k : ℕ) (head row : Row) (b : Bool) → slice_get rows r ≡ Some head → slice_get rows k ≡ Some row → r + 1 ≤ k → row.unit ≡ head.unit → is_open row ≡ b → rest_to rows r (k + 1) ≡ rest_to rows r k ++ cond b (k ∷ []) []
rest_on rows r k head row b h g l u e = rest_more rows r k row g ∙ ap (λ c. rest_to rows r k ++ map (λ (other : ℕ × Row). other.0) (cond c ((k, row) ∷ []) [])) (here_is_rest rows r k head row b h l u e) ∙ ap (λ xs. rest_to rows r k ++ xs) (by b)
  where
    by : (b : Bool) → map (λ (other : ℕ × Row). other.0) (cond b ((k, row) ∷ []) []) ≡ cond b (k ∷ []) []
    by true = refl
    by false = refl

-- If no row from k on belongs to the chain, the list is complete.
pub rest_end : (rows : List Row) (r k : ℕ) → ((i : ℕ) (row head : Row) → k ≤ i → slice_get rows i ≡ Some row → slice_get rows r ≡ Some head → row.unit ≡ head.unit → ⊥) → rest_to rows r k ≡ rest_of rows r
rest_end rows r k other = ap (map (λ (other : ℕ × Row). other.0)) (none_after (in_rest rows r) k (enumerate_from 0 rows) (λ i p l e. numbered (in_rest rows r) rows i p (λ row g. apart i row l g) e))
  where
    apart : (i : ℕ) (row : Row) → k ≤ i → slice_get rows i ≡ Some row → in_rest rows r (i, row) ≡ false
    apart i row l g = by (nat_lt r i) (passes_at (λ (x : Row). row.unit == x.unit) rows r) (is_open row) (of_unit (slice_get rows r) refl)
      where
        of_unit : (o : Option Row) → slice_get rows r ≡ o → passes_at (λ (x : Row). row.unit == x.unit) rows r ≡ false
        of_unit None e = ap (λ o. option_map_or (λ (x : Row). row.unit == x.unit) o false) e
        of_unit (Some head) e = passes_here (λ (x : Row). row.unit == x.unit) rows r head e ∙ ne_eqb row.unit head.unit (λ u. other i row head l g e u)

        by : (a b c : Bool) → b ≡ false → (a && (b && c)) ≡ false
        by false b c e = refl
        by true b c e = ap (λ d. d && c) e

-- There is no row r.
pub rest_none : (rows : List Row) (r : ℕ) → length rows ≤ r → [] ≡ rest_of rows r
rest_none rows r h = rest_end rows r 0 (λ i row head l g e u. let f = slice_get_past rows r h in let k = sym e ∙ f in cc)

-- All rows were examined.
pub rest_past : (rows : List Row) (r k : ℕ) → length rows ≤ k → rest_to rows r k ≡ rest_of rows r
rest_past rows r k h = rest_end rows r k (λ i row head l g e u. let f = slice_get_within rows i row g in omega (arith, f, h, l))

-- A row of another chain ends the search.
pub rest_left : (rows : List Row) (r k : ℕ) (head row : Row) → Chained rows → slice_get rows r ≡ Some head → slice_get rows k ≡ Some row → r + 1 ≤ k → (row.unit ≡ head.unit → ⊥) → rest_to rows r k ≡ rest_of rows r
rest_left = grind (arith, rest_end)
