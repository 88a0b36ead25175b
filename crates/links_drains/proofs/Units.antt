-- Tests of the rows of a chain, by sets of row numbers and after changes of the table.
use Rattle.links_drains.proofs.Common.{◌≡◌, ◌≢◌, ℕ, zero, suc, Bool, true, false, refl, sym, ◌∙◌, ap, List, [], ◌∷◌, ◌++◌, take, ◌≤◌, arith, Some, slice_get, slice_set, ◌==◌, ◌&&◌, ◌||◌, MatchBool, option_map_or, list_any, cases_Bool, eq-eqb, eqb-true, ne_eqb, and_from, and_parts, and_left, or_from, or_left, or_right, Row, Chained, has, IsNext, passes_at, HasRowOf, HasNoRowOf, list_any-append}

-- ---- Some item passes a test

pub any_true : {X : Type 0} (test : X → Bool) (xs : List X) (i : ℕ) (x : X) → slice_get xs i ≡ Some x → test x ≡ true → list_any test xs ≡ true
any_true test [] i x h t = absurd cc
any_true test (y ∷ ys) zero x h t = let e : y ≡ x = cc in or_left _ _ (ap test e ∙ t)
any_true test (y ∷ ys) (suc i) x h t = or_right _ _ (any_true test ys i x h t)

pub any_false : {X : Type 0} (test : X → Bool) (xs : List X) → ((i : ℕ) (x : X) → slice_get xs i ≡ Some x → test x ≡ false) → list_any test xs ≡ false
any_false test [] h = refl
any_false test (y ∷ ys) h = or_from _ _ (h 0 y refl) (any_false test ys (λ i x e. h (suc i) x e))

pub record Passes {X : Type 0} (test : X → Bool) (xs : List X) : Type 0 where
  pub index : ℕ
  pub element : X
  pub there : slice_get xs index ≡ Some element
  pub passes : test element ≡ true

pub any_found : {X : Type 0} (test : X → Bool) (xs : List X) → list_any test xs ≡ true → Passes test xs
any_found test [] h = absurd cc
any_found test (y ∷ ys) h = by (test y) refl h (any_found test ys)
  where
    by : (b : Bool) → test y ≡ b → (b || list_any test ys) ≡ true → (list_any test ys ≡ true → Passes test ys) → Passes test (y ∷ ys)
    by true e k more = record { index = 0; element = y; there = refl; passes = e }
    by false e k more = let w = more k in record { index = suc w.index; element = w.element; there = w.there; passes = w.passes }

-- An item is replaced by one with the same test result.
pub any_set : {X : Type 0} (test : X → Bool) (xs : List X) (i : ℕ) (x y : X) → slice_get xs i ≡ Some x → test y ≡ test x → list_any test (slice_set xs i y) ≡ list_any test xs
any_set test [] i x y h e = refl
any_set test (z ∷ zs) zero x y h e = let k : z ≡ x = cc in ap (λ b. b || list_any test zs) (e ∙ ap test (sym k))
any_set test (z ∷ zs) (suc i) x y h e = ap (λ b. test z || b) (any_set test zs i x y h e)

-- An item that fails the test is added.
pub any_push : {X : Type 0} (test : X → Bool) (xs : List X) (y : X) → test y ≡ false → list_any test (xs ++ y ∷ []) ≡ list_any test xs
any_push = grind (arith, list_any-append)

-- Items that fail the test are dropped.
pub any_take : {X : Type 0} (test : X → Bool) (xs : List X) (n : ℕ) → ((i : ℕ) (x : X) → n ≤ i → slice_get xs i ≡ Some x → test x ≡ false) → list_any test (take n xs) ≡ list_any test xs
any_take test [] zero h = refl
any_take test [] (suc n) h = refl
any_take test (y ∷ ys) zero h = sym (any_false test (y ∷ ys) (λ i x e. h i x (omega arith) e))
any_take test (y ∷ ys) (suc n) h = ap (λ b. test y || b) (any_take test ys n (λ i x l e. h (suc i) x (omega arith) e))

-- ---- Rows of a chain

abbrev of_unit : (Row → Bool) → ℕ → Row → Bool
of_unit test unit row = (row.unit == unit) && test row

abbrev pub any_of : (Row → Bool) → List Row → ℕ → Bool
any_of test rows unit = list_any (λ (row : Row). (row.unit == unit) && test row) rows

-- A row of another chain.
other_unit : (test : Row → Bool) (unit : ℕ) (row : Row) → row.unit ≢ unit → of_unit test unit row ≡ false
other_unit test unit row h = and_left _ _ (ne_eqb row.unit unit h)

pub any_of_set : (test : Row → Bool) (rows : List Row) (r unit : ℕ) (before row : Row) → slice_get rows r ≡ Some before → row.unit ≡ before.unit → unit ≢ row.unit → any_of test (slice_set rows r row) unit ≡ any_of test rows unit
any_of_set = grind (arith, any_set)

pub any_of_push : (test : Row → Bool) (rows : List Row) (unit : ℕ) (row : Row) → unit ≢ row.unit → any_of test (rows ++ row ∷ []) unit ≡ any_of test rows unit
any_of_push test rows unit row other = any_push (of_unit test unit) rows row (other_unit test unit row (λ e. other (sym e)))

pub any_of_take : (test : Row → Bool) (rows : List Row) (n unit : ℕ) → ((r : ℕ) (row : Row) → n ≤ r → slice_get rows r ≡ Some row → row.unit ≢ unit) → any_of test (take n rows) unit ≡ any_of test rows unit
any_of_take test rows n unit h = any_take (of_unit test unit) rows n (λ r row l e. other_unit test unit row (h r row l e))

pub any_of_none : (test : Row → Bool) (rows : List Row) (unit : ℕ) → ((r : ℕ) (row : Row) → slice_get rows r ≡ Some row → row.unit ≢ unit) → any_of test rows unit ≡ false
any_of_none test rows unit h = any_false (of_unit test unit) rows (λ r row e. other_unit test unit row (h r row e))

pub any_of_true : (test : Row → Bool) (rows : List Row) (r : ℕ) (row : Row) (unit : ℕ) → slice_get rows r ≡ Some row → row.unit ≡ unit → test row ≡ true → any_of test rows unit ≡ true
any_of_true test rows r row unit h e t = any_true (of_unit test unit) rows r row h (and_from _ _ (eq-eqb row.unit unit e) t)

pub record FoundIn (test : Row → Bool) (rows : List Row) (unit : ℕ) : Type 0 where
  pub number : ℕ
  pub row : Row
  pub there : slice_get rows number ≡ Some row
  pub same : row.unit ≡ unit
  pub passes : test row ≡ true

pub any_of_found : (test : Row → Bool) (rows : List Row) (unit : ℕ) → any_of test rows unit ≡ true → FoundIn test rows unit
any_of_found test rows unit h =
    let w = any_found (of_unit test unit) rows h in
    let p = and_parts _ _ w.passes in
    record { number = w.index; row = w.element; there = w.there; same = eqb-true w.element.unit unit p.0; passes = p.1 }

-- ---- By a set of row numbers

pub passes_here : (test : Row → Bool) (rows : List Row) (r : ℕ) (row : Row) → slice_get rows r ≡ Some row → passes_at test rows r ≡ test row
passes_here test rows r row h = ap (λ o. option_map_or test o false) h

-- The first number in the set, from the chain's first row on.
pub first_of_unit : (words : List ℕ) (rows : List Row) (unit r : ℕ) (row : Row) → Chained rows → IsNext words unit r → slice_get rows r ≡ Some row → (b : Bool) → (row.unit == unit) ≡ b → MatchBool b (HasRowOf words rows unit) (HasNoRowOf words rows unit)
first_of_unit = grind arith

pub any_of_has : (test : Row → Bool) (words : List ℕ) (rows : List Row) (unit : ℕ) → ((r : ℕ) → has words r ≡ passes_at test rows r) → (b : Bool) → MatchBool b (HasRowOf words rows unit) (HasNoRowOf words rows unit) → b ≡ any_of test rows unit
any_of_has = grind (arith, any_of_true, passes_here, any_false, cases_Bool, eqb-true, and_left)
