-- Endings are of unfinished rows, by ascending number.
use Rattle.links_drains.proofs.Common.{◌≡◌, ℕ, ℤ, zero, suc, true, refl, sym, ◌∙◌, ap, subst, List, [], ◌∷◌, ◌+◌, ◌<◌, arith, Option, Some, None, slice_get, cons_option, Row, is_unfinished, Ending, paired, endings_from, endings}
use Rattle.links_drains.proofs.Listing.{result_of, endings_step}

-- The ending belongs to an unfinished row and has the result that f has for it. Rows are numbered
-- from n.
pub record EndsFrom (f : ℕ → Row → Option ℤ) (n : ℕ) (rows : List Row) (e : Ending) : Type 0 where
  pub index : ℕ
  pub row : Row
  pub is : e.0 ≡ n + index
  pub there : slice_get rows index ≡ Some row
  pub unfinished : is_unfinished row.phase ≡ true
  pub gives : f e.0 row ≡ Some e.1

gives_of : (f : ℕ → Row → Option ℤ) (n : ℕ) (row : Row) (res : ℤ) → result_of f n row ≡ Some res → (is_unfinished row.phase ≡ true) × (f n row ≡ Some res)
gives_of = grind arith

later : (f : ℕ → Row → Option ℤ) (n : ℕ) (row : Row) (rows : List Row) (e : Ending) → EndsFrom f (n + 1) rows e → EndsFrom f n (row ∷ rows) e
later f n row rows e h = record { index = suc h.index; row = h.row; is = omega (arith, h.is); there = h.there; unfinished = h.unfinished; gives = h.gives }

pub ends_from : (f : ℕ → Row → Option ℤ) (n : ℕ) (rows : List Row) (i : ℕ) (e : Ending) → slice_get (endings_from f n rows) i ≡ Some e → EndsFrom f n rows e
ends_from f n [] i e h = absurd cc
ends_from f n (row ∷ rows) i e h = by (result_of f n row) refl i (sym (ap (λ es. slice_get es i) (endings_step f n row rows)) ∙ h) (λ j k. later f n row rows e (ends_from f (n + 1) rows j e k))
  where
    by : (o : Option ℤ) → result_of f n row ≡ o → (j : ℕ) → slice_get (cons_option (paired n o) (endings_from f (n + 1) rows)) j ≡ Some e
        → ((j : ℕ) → slice_get (endings_from f (n + 1) rows) j ≡ Some e → EndsFrom f n (row ∷ rows) e) → EndsFrom f n (row ∷ rows) e
    by None g j k more = more j k
    by (Some res) g (suc j) k more = more j k
    by (Some res) g zero k more =
        let same : (n, res) ≡ e = cc in
        let w = gives_of f n row res g in
        subst (λ (x : Ending). EndsFrom f n (row ∷ rows) x) same (record { index = 0; row = row; is = omega arith; there = refl; unfinished = w.0; gives = w.1 })

pub rising_from : (f : ℕ → Row → Option ℤ) (n : ℕ) (rows : List Row) (i j : ℕ) (p q : Ending) → slice_get (endings_from f n rows) i ≡ Some p → slice_get (endings_from f n rows) j ≡ Some q → i < j → p.0 < q.0
rising_from f n [] i j p q h k l = absurd cc
rising_from f n (row ∷ rows) i j p q h k l = by (result_of f n row) i j (sym (ap (λ es. slice_get es i) (endings_step f n row rows)) ∙ h) (sym (ap (λ es. slice_get es j) (endings_step f n row rows)) ∙ k) l (λ x y. rising_from f (n + 1) rows x y p q)
  where
    by : (o : Option ℤ) (x y : ℕ) → slice_get (cons_option (paired n o) (endings_from f (n + 1) rows)) x ≡ Some p → slice_get (cons_option (paired n o) (endings_from f (n + 1) rows)) y ≡ Some q → x < y
        → ((x y : ℕ) → slice_get (endings_from f (n + 1) rows) x ≡ Some p → slice_get (endings_from f (n + 1) rows) y ≡ Some q → x < y → p.0 < q.0) → p.0 < q.0
    by None x y g m l more = more x y g m l
    by (Some res) (suc x) (suc y) g m l more = more x y g m (omega arith)
    by (Some res) (suc x) zero g m l more = absurd (omega arith)
    by (Some res) zero zero g m l more = absurd (omega arith)
    by (Some res) zero (suc y) g m l more =
        let same : (n, res) ≡ p = cc in
        let w = ends_from f (n + 1) rows y q m in
        let low : p.0 ≡ n = sym (ap (λ (z : Ending). z.0) same) in
        omega (arith, w.is, low)

pub ends_at : (f : ℕ → Row → Option ℤ) (rows : List Row) (i : ℕ) (e : Ending) → slice_get (endings f rows) i ≡ Some e → (row : Row) × (slice_get rows e.0 ≡ Some row) × (is_unfinished row.phase ≡ true) × (f e.0 row ≡ Some e.1)
ends_at f rows i e h =
    let w = ends_from f 0 rows i e h in
    let m : e.0 ≡ w.index = omega (arith, w.is) in
    (w.row, ap (slice_get rows) m ∙ w.there, w.unfinished, w.gives)

pub rising : (f : ℕ → Row → Option ℤ) (rows : List Row) (i j : ℕ) (p q : Ending) → slice_get (endings f rows) i ≡ Some p → slice_get (endings f rows) j ≡ Some q → i < j → p.0 < q.0
rising f rows = rising_from f 0 rows
