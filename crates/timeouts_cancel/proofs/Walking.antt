-- Processing the direct completions, and the requests that they sever, in one pass.
use Rattle.timeouts_cancel.proofs.Common.{◌≡◌, ℕ, ℤ, zero, suc, Bool, true, false, cond, refl, sym, ◌∙◌, ap, subst, List, [], ◌∷◌, ◌++◌, take, ◌+◌, ◌-◌, ◌<◌, ◌≤◌, ◌⊎◌, arith, Option, Some, None, slice_get, ◌==◌, ◌&&◌, cons_option, eqb-true, append-nil, Row, is_soft_linked, is_unfinished, Ending, result_in, paired, endings, given, ecanceled, Direct, endings_from, is_severed, is_bad, result_of, ends_at, Severs, Walked, own_endings, result_by, upto}
use Rattle.timeouts_cancel.proofs.{Again.any_found, Again.result_there, Again.listed_row, Severing.severs_is, Severing.severed_by}

-- ---- The completions among the first rows

-- A list of zero or one completions.
abbrev pub of_one : Option Ending → List Ending
of_one o = cons_option o []

more_from : (f : ℕ → Row → Option ℤ) (n : ℕ) (rows : List Row) (k : ℕ) (row : Row) → slice_get rows k ≡ Some row → endings_from f n (take (k + 1) rows) ≡ endings_from f n (take k rows) ++ of_one (paired (n + k) (result_of f (n + k) row))
more_from f n [] k row h = absurd cc
more_from f n (x ∷ rows) zero row h = grind arith
more_from f n (x ∷ rows) (suc k) row h = grind (arith, more_from f (n + 1) rows k row h)

pub upto_more : (f : ℕ → Row → Option ℤ) (rows : List Row) (k : ℕ) (row : Row) → slice_get rows k ≡ Some row → upto f rows (k + 1) ≡ upto f rows k ++ of_one (paired k (result_of f k row))
upto_more f rows k row h = let m : 0 + k ≡ k = omega arith in subst (λ j. upto f rows (k + 1) ≡ upto f rows k ++ of_one (paired j (result_of f j row))) m (more_from f 0 rows k row h)

pub take_past : (rows : List Row) (k : ℕ) → slice_get rows k ≡ None → take (k + 1) rows ≡ take k rows
take_past [] zero h = refl
take_past [] (suc k) h = let m : suc k + 1 ≡ suc (k + 1) = omega arith in let none : List Row = [] in ap (λ n. take n none) m
take_past (x ∷ rows) zero h = absurd cc
take_past (x ∷ rows) (suc k) h = let m : suc k + 1 ≡ suc (k + 1) = omega arith in ap (λ n. take n (x ∷ rows)) m ∙ ap (λ zs. x ∷ zs) (take_past rows k h)

-- Rows without a result add nothing.
pub upto_gap : (f : ℕ → Row → Option ℤ) (rows : List Row) (k d : ℕ) → ((r : ℕ) (row : Row) → k ≤ r → r < k + d → slice_get rows r ≡ Some row → result_of f r row ≡ None) → upto f rows (k + d) ≡ upto f rows k
upto_gap f rows k zero h = let m : k + zero ≡ k = omega arith in ap (upto f rows) m
upto_gap f rows k (suc d) h =
    let m : k + suc d ≡ k + d + 1 = omega arith in
    ap (upto f rows) m ∙ by (slice_get rows (k + d)) refl ∙ upto_gap f rows k d (λ r row a b e. h r row a (omega (arith, b)) e)
  where
    by : (o : Option Row) → slice_get rows (k + d) ≡ o → upto f rows (k + d + 1) ≡ upto f rows (k + d)
    by None e = ap (endings f) (take_past rows (k + d) e)
    by (Some row) e =
        upto_more f rows (k + d) row e
        ∙ ap (λ o. upto f rows (k + d) ++ of_one (paired (k + d) o)) (h (k + d) row (omega arith) (omega arith) e)
        ∙ append-nil (upto f rows (k + d))

-- From the first k rows to the first m, if no row between them has a result, and to the row m.
pub upto_to : (f : ℕ → Row → Option ℤ) (rows : List Row) (k m : ℕ) (es : List Ending) → es ≡ upto f rows k → k ≤ m → ((r : ℕ) (row : Row) → k ≤ r → r < m → slice_get rows r ≡ Some row → result_of f r row ≡ None) → es ≡ upto f rows m
upto_to f rows k m es e l h = let n : k + (m - k) ≡ m = omega arith in e ∙ sym (upto_gap f rows k (m - k) (λ r row a b. h r row a (omega arith))) ∙ ap (upto f rows) n

pub upto_next : (f : ℕ → Row → Option ℤ) (rows : List Row) (k m : ℕ) (es : List Ending) (row : Row) → es ≡ upto f rows k → k ≤ m → ((r : ℕ) (row : Row) → k ≤ r → r < m → slice_get rows r ≡ Some row → result_of f r row ≡ None) → slice_get rows m ≡ Some row
    → upto f rows (m + 1) ≡ es ++ of_one (paired m (result_of f m row))
upto_next f rows k m es row e l h t = rw (upto_to f rows k m es e l h) (upto_more f rows m row t)

-- ---- The result of a row after the second rule

pub result_at : (es : List Ending) (i : ℕ) (e : Ending) → ((i j : ℕ) (p q : Ending) → slice_get es i ≡ Some p → slice_get es j ≡ Some q → i < j → p.0 < q.0) → slice_get es i ≡ Some e → result_in es e.0 ≡ Some e.1
result_at [] i e h k = absurd cc
result_at (x ∷ es) zero e h k = grind arith
result_at (x ∷ es) (suc i) e h k = by (x.0 == e.0) refl (result_at es i e (λ a b p q c d l. h (suc a) (suc b) p q c d (omega arith)) k)
  where
    by : (b : Bool) → (x.0 == e.0) ≡ b → result_in es e.0 ≡ Some e.1 → cond b (Some x.1) (result_in es e.0) ≡ Some e.1
    by true g m = absurd (let l = h 0 (suc i) x e refl k (omega arith) in let a = eqb-true x.0 e.0 g in omega (arith, l, a))
    by false g m = m

-- The result of a direct completion.
pub test_direct : (rows : List Row) (direct : List Ending) (i : ℕ) (e : Ending) (row : Row) → Direct rows direct → slice_get direct i ≡ Some e → slice_get rows e.0 ≡ Some row → result_of (result_by rows direct) e.0 row ≡ Some e.1
test_direct = grind (arith, listed_row, result_at)

-- The row is no direct completion.
abbrev pub NotDirect : List Ending → ℕ → Type 0
NotDirect direct r = (j : ℕ) (e : Ending) → slice_get direct j ≡ Some e → e.0 ≡ r → ⊥

pub undirected : (direct : List Ending) (r : ℕ) → NotDirect direct r → result_in direct r ≡ None
undirected = grind (arith, result_there)

-- Only a direct completion severs a row.
pub severed_so : (rows : List Row) (direct : List Ending) (r : ℕ) (row : Row) → is_severed rows (own_endings rows direct) r row ≡ true → (i : ℕ) × (e : Ending) × (slice_get direct i ≡ Some e) × Severs rows r row e
severed_so = grind (arith, any_found, ends_at, result_there, severs_is)

pub severed_if : (rows : List Row) (direct : List Ending) (r : ℕ) (row : Row) (i : ℕ) (e : Ending) → Direct rows direct → slice_get direct i ≡ Some e → Severs rows r row e → is_severed rows (own_endings rows direct) r row ≡ true
severed_if rows direct r row i e d h s =
    let w = d.each i e h in
    let l = listed_row (λ r row. result_in direct r) rows e.0 w.0 w.1 w.2 ∙ result_at direct i e d.rising h in
    let t = result_there (own_endings rows direct) e.0 e.1 l in
    severed_by rows (own_endings rows direct) r row t.0 (e.0, e.1) t.1 (record { before = s.before; there = s.there; less = s.less; unit = s.unit; soft = s.soft; bad = s.bad })

-- The result of a row that is no direct completion.
pub test_other : (rows : List Row) (direct : List Ending) (r : ℕ) (row : Row) → slice_get rows r ≡ Some row → NotDirect direct r → result_of (result_by rows direct) r row ≡ (cond (is_unfinished row.phase) (given (is_severed rows (own_endings rows direct) r row) ecanceled) None)
test_other = grind (arith, listed_row, undirected)

-- ---- The pass

pub split : (j i : ℕ) → (j < i) ⊎ (i ≤ j)
split = grind arith

-- No row between those processed and the next direct completion is listed.
pub between : (rows : List Row) (direct : List Ending) (k i : ℕ) (es : List Ending) (r : ℕ) (row : Row) → Walked rows direct k i es → k ≤ r → ((j : ℕ) (e : Ending) → slice_get direct j ≡ Some e → i ≤ j → r < e.0) → slice_get rows r ≡ Some row
    → result_of (result_by rows direct) r row ≡ None
between rows direct k i es r row w l next h =
    test_other rows direct r row h (λ j e g same. by j e g same (split j i)) ∙ none (is_unfinished row.phase) (is_severed rows (own_endings rows direct) r row) refl
  where
    by : (j : ℕ) (e : Ending) → slice_get direct j ≡ Some e → e.0 ≡ r → (j < i) ⊎ (i ≤ j) → ⊥
    by = grind arith

    none : (u b : Bool) → is_severed rows (own_endings rows direct) r row ≡ b → cond u (given b ecanceled) None ≡ None
    none true false e = refl
    none false b e = refl
    none true true e = absurd (let f = severed_so rows direct r row e in let c : f.0 < i → ⊥ = λ a. w.clear r row f.0 f.1 l h f.2 a f.3 in let n = next f.0 f.1 f.2 in let x = f.3.less in grind arith)

-- The rows up to and including a direct completion.
pub listed_direct : (rows : List Row) (direct : List Ending) (k i : ℕ) (es : List Ending) (e : Ending) (row : Row) → Direct rows direct → Walked rows direct k i es → slice_get direct i ≡ Some e → slice_get rows e.0 ≡ Some row
    → es ++ e ∷ [] ≡ upto (result_by rows direct) rows (e.0 + 1)
listed_direct rows direct k i es e row d w h t =
    let low = w.above i e h (omega arith) in
    let next = upto_next (result_by rows direct) rows k e.0 es row w.listed low (λ r x a b g. between rows direct k i es r x w a (grind arith) g) t in
    grind (arith, test_direct)

pub below_next : (rows : List Row) (direct : List Ending) (k i : ℕ) (es : List Ending) (e : Ending) → Direct rows direct → Walked rows direct k i es → slice_get direct i ≡ Some e → (j : ℕ) (p : Ending) → slice_get direct j ≡ Some p → j < i + 1 → p.0 < e.0 + 1
below_next = grind arith

pub above_next : (rows : List Row) (direct : List Ending) (i : ℕ) (e : Ending) → Direct rows direct → slice_get direct i ≡ Some e → (j : ℕ) (p : Ending) → slice_get direct j ≡ Some p → i + 1 ≤ j → e.0 + 1 ≤ p.0
above_next rows direct i e d h j p g l = let x = d.rising i j e p h g (omega (arith, l)) in omega (arith, x)

-- A direct completion that severs nothing.
pub walked_direct : (rows : List Row) (direct : List Ending) (k i : ℕ) (es : List Ending) (e : Ending) (row : Row) → Direct rows direct → Walked rows direct k i es → slice_get direct i ≡ Some e → slice_get rows e.0 ≡ Some row
    → (is_soft_linked row && is_bad row e.1) ≡ false → Walked rows direct (e.0 + 1) (i + 1) (es ++ e ∷ [])
walked_direct rows direct k i es e row d w h t n = record {
  listed = listed_direct rows direct k i es e row d w h t;
  below = below_next rows direct k i es e d w h;
  above = above_next rows direct i e d h;
  clear = λ r x j p l g q a s. let low = w.above i e h (omega arith) in let c : j < i → ⊥ = λ b. w.clear r x j p (omega (arith, l, low)) g q b s in grind arith;
}
