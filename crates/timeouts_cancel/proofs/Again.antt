-- Applying the rules of the cascade again adds nothing.
use Rattle.timeouts_cancel.proofs.Common.{◌≡◌, ℕ, ℤ, zero, suc, Bool, true, false, cond, refl, ◌∙◌, ap, List, [], ◌∷◌, arith, Option, Some, None, slice_get, ◌==◌, ◌||◌, option_and_then, list_any, eqb-true, Row, is_unfinished, Ending, result_in, endings, or_else, given, joined, result_of, listed_at, alike}

-- ---- Some item passes a test

pub any_at : {X : Type 0} (p : X → Bool) (xs : List X) (i : ℕ) (x : X) → slice_get xs i ≡ Some x → p x ≡ true → list_any p xs ≡ true
any_at p [] i x h k = absurd cc
any_at p (y ∷ ys) zero x h k = let e : y ≡ x = cc in ap (λ b. b || list_any p ys) (ap p e ∙ k)
any_at {X} p (y ∷ ys) (suc i) x h k = grind (arith, any_at p ys i x h k)

pub any_found : {X : Type 0} (p : X → Bool) (xs : List X) → list_any p xs ≡ true → (i : ℕ) × (x : X) × (slice_get xs i ≡ Some x) × (p x ≡ true)
any_found p [] h = absurd cc
any_found {X} p (y ∷ ys) h = by (p y) refl h (any_found p ys)
  where
    by : (b : Bool) → p y ≡ b → (b || list_any p ys) ≡ true → (list_any p ys ≡ true → (i : ℕ) × (x : X) × (slice_get ys i ≡ Some x) × (p x ≡ true)) → (i : ℕ) × (x : X) × (slice_get (y ∷ ys) i ≡ Some x) × (p x ≡ true)
    by true e k more = (0, y, refl, e)
    by false e k more = let r = more k in (suc r.0, r.1, r.2, r.3)

-- ---- What is listed

-- If the list has a result for a row, it has a completion with that result.
pub result_there : (es : List Ending) (r : ℕ) (res : ℤ) → result_in es r ≡ Some res → (i : ℕ) × (slice_get es i ≡ Some (r, res))
result_there [] r res h = absurd cc
result_there (e ∷ es) r res h = by (e.0 == r) refl h (result_there es r res)
  where
    by : (b : Bool) → (e.0 == r) ≡ b → cond b (Some e.1) (result_in es r) ≡ Some res → (result_in es r ≡ Some res → (i : ℕ) × (slice_get es i ≡ Some (r, res))) → (i : ℕ) × (slice_get (e ∷ es) i ≡ Some (r, res))
    by true g k more =
        let a : e.0 ≡ r = eqb-true e.0 r g in
        let b : e.1 ≡ res = cc in
        (0, ap (λ x. Some (x, e.1)) a ∙ ap (λ y. Some (r, y)) b)
    by false g k more = let w = more k in (suc w.0, w.1)

-- The result listed for a row.
pub listed_row : (f : ℕ → Row → Option ℤ) (rows : List Row) (r : ℕ) (row : Row) → slice_get rows r ≡ Some row → is_unfinished row.phase ≡ true → result_in (endings f rows) r ≡ f r row
listed_row f rows r row h u = listed_at f rows r ∙ ap (option_and_then (result_of f r)) h ∙ ap (λ b. cond b (f r row) None) u

pub or_else_none : (a b : Option ℤ) → or_else a b ≡ None → (a ≡ None) × (b ≡ None)
or_else_none = grind arith

pub given_none : (b : Bool) (res : ℤ) → given b res ≡ None → b ≡ false
given_none = grind arith

pub given_is : (b : Bool) (res got : ℤ) → given b res ≡ Some got → (b ≡ true) × (got ≡ res)
given_is = grind arith

-- ---- A rule without results for unlisted rows adds nothing

pub joined_nothing : (f g : ℕ → Row → Option ℤ) (rows : List Row)
    → ((r : ℕ) (row : Row) → slice_get rows r ≡ Some row → is_unfinished row.phase ≡ true → g r row ≡ None → f r row ≡ None) → joined rows f (endings g rows) ≡ endings g rows
joined_nothing f g rows h = alike (λ r row. or_else (result_in (endings g rows) r) (f r row)) g rows (λ r row e. by r row e (is_unfinished row.phase) refl)
  where
    at : (r : ℕ) (row : Row) → (o : Option ℤ) → (o ≡ None → f r row ≡ None) → or_else o (f r row) ≡ o
    at = grind arith

    by : (r : ℕ) (row : Row) → slice_get rows r ≡ Some row → (b : Bool) → is_unfinished row.phase ≡ b → cond b (or_else (result_in (endings g rows) r) (f r row)) None ≡ cond b (g r row) None
    by = grind (arith, listed_row, at)
