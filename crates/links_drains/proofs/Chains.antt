-- Chains remain contiguous when the table changes.
use Rattle.links_drains.proofs.Common.{◌≡◌, ℕ, zero, suc, Bool, true, false, cond, refl, sym, ◌∙◌, ap, List, [], ◌∷◌, ◌++◌, length, take, ◌+◌, ◌-◌, ◌<◌, ◌≤◌, ◌⊎◌, inl, inr, arith, Option, Some, None, option_map, slice_get, option_map_or, enumerate_from, cases_lt, slice_get-map, slice_get_within, Sqe, Row, updated, slice_get-take_below, slice_get-take_above, WorldState, chain_of, row_of, rows_of, is_linked, Chained}
use Rattle.links_drains.proofs.RowsKept.{get-updated}

-- ---- Chains of a batch

pub chain_before : (es : List Sqe) (i : ℕ) → chain_of es i ≤ i
chain_before es zero = omega arith
chain_before es (suc i) = grind (arith, chain_before es i)

-- All entries from the chain's first up to i belong to it.
pub chain_run : (es : List Sqe) (i j : ℕ) → chain_of es i ≤ j → j ≤ i → chain_of es j ≡ chain_of es i
chain_run es zero j h k = let e : j ≡ zero = omega (arith, k) in ap (chain_of es) e
chain_run es (suc i) j h k = by (option_map_or is_linked (slice_get es i) false) refl h (chain_run es i j) (cases_lt j (suc i))
  where
    by : (b : Bool) → option_map_or is_linked (slice_get es i) false ≡ b → cond b (chain_of es i) (suc i) ≤ j → (chain_of es i ≤ j → j ≤ i → chain_of es j ≡ chain_of es i) → (j < suc i) ⊎ (suc i ≤ j) → chain_of es j ≡ cond b (chain_of es i) (suc i)
    by true e l more (inl less) = more l (omega (arith, less))
    by true e l more (inr same) = let m : j ≡ suc i = omega (arith, same, k) in ap (chain_of es) m ∙ ap (λ b. cond b (chain_of es i) (suc i)) e
    by false e l more s = let m : j ≡ suc i = omega (arith, l, k) in ap (chain_of es) m ∙ ap (λ b. cond b (chain_of es i) (suc i)) e

-- ---- Rows of a batch

enumerated_from : {X : Type 0} (n : ℕ) (xs : List X) (i : ℕ) → slice_get (enumerate_from n xs) i ≡ option_map (λ x. (n + i, x)) (slice_get xs i)
enumerated_from n [] i = refl
enumerated_from {X} n (x ∷ xs) zero = let m : n ≡ n + zero = omega arith in ap (λ k. option_map (λ (y : X). (k, y)) (Some x)) m
enumerated_from {X} n (x ∷ xs) (suc i) = let m : n + 1 + i ≡ n + suc i = omega arith in enumerated_from (n + 1) xs i ∙ ap (λ k. option_map (λ (y : X). (k, y)) (slice_get xs i)) m

pub enumerated : {X : Type 0} (xs : List X) (i : ℕ) → slice_get (enumerate_from 0 xs) i ≡ option_map (λ x. (i, x)) (slice_get xs i)
enumerated {X} xs i = let m : 0 + i ≡ i = omega arith in enumerated_from 0 xs i ∙ ap (λ k. option_map (λ (y : X). (k, y)) (slice_get xs i)) m

pub get-batch : (w : WorldState) (first : ℕ) (es : List Sqe) (i : ℕ) → slice_get (rows_of w first es) i ≡ option_map (row_of w first es i) (slice_get es i)
get-batch = grind (arith, slice_get-map, enumerated)

-- A row of a batch results from one of its entries.
pub record Became (w : WorldState) (first : ℕ) (es : List Sqe) (i : ℕ) (row : Row) : Type 0 where
  pub entry : Sqe
  pub there : slice_get es i ≡ Some entry
  pub is : row ≡ row_of w first es i entry

pub became : (w : WorldState) (first : ℕ) (es : List Sqe) (i : ℕ) (row : Row) → slice_get (rows_of w first es) i ≡ Some row → Became w first es i row
became w first es i row h = by (slice_get es i) refl (sym (get-batch w first es i) ∙ h)
  where
    by : (o : Option Sqe) → slice_get es i ≡ o → option_map (row_of w first es i) o ≡ Some row → Became w first es i row
    by None e k = absurd cc
    by (Some x) e k = record { entry = x; there = e; is = cc }

-- ---- Rows added after others

get-front : (rows more : List Row) (i : ℕ) → i < length rows → slice_get (rows ++ more) i ≡ slice_get rows i
get-front [] more i h = absurd (omega (arith, h))
get-front (x ∷ rows) more zero h = refl
get-front (x ∷ rows) more (suc i) h = get-front rows more i (omega (arith, h))

pub get-appended : (rows more : List Row) (i : ℕ) → slice_get (rows ++ more) (length rows + i) ≡ slice_get more i
get-appended [] more i = let m : 0 + i ≡ i = omega arith in ap (slice_get more) m
get-appended (x ∷ rows) more i = let m : suc (length rows) + i ≡ suc (length rows + i) = omega arith in ap (slice_get (x ∷ rows ++ more)) m ∙ get-appended rows more i

record InBatch (rows more : List Row) (r : ℕ) (x : Row) : Type 0 where
  pub index : ℕ
  pub is : r ≡ length rows + index
  pub there : slice_get more index ≡ Some x

placed : (rows more : List Row) (r : ℕ) (x : Row) → slice_get (rows ++ more) r ≡ Some x → (slice_get rows r ≡ Some x) ⊎ InBatch rows more r x
placed rows more r x h = by (cases_lt r (length rows))
  where
    by : (r < length rows) ⊎ (length rows ≤ r) → (slice_get rows r ≡ Some x) ⊎ InBatch rows more r x
    by (inl less) = inl (sym (get-front rows more r less) ∙ h)
    by (inr le) =
        let m : r ≡ length rows + (r - length rows) = omega (arith, le) in
        inr (record { index = r - length rows; is = m; there = sym (get-appended rows more (r - length rows)) ∙ ap (slice_get (rows ++ more)) (sym m) ∙ h })

-- ---- Changes of a table

pub chained-none : Chained []
chained-none = record { back = λ r x h. absurd cc; run = λ q r y x g h l k. absurd cc }

pub chained-batch : (w : WorldState) (rows : List Row) (es : List Sqe) → Chained rows → Chained (rows ++ rows_of w (length rows) es)
chained-batch w rows es c = record {
  back = λ r x h. back r x (placed rows batch r x h);
  run = λ q r y x g h l k. run q r y x (placed rows batch q y g) (placed rows batch r x h) l k;
}
  where
    batch : List Row
    batch = rows_of w (length rows) es

    unit : (r : ℕ) (x : Row) (b : InBatch rows batch r x) → x.unit ≡ length rows + chain_of es b.index
    unit r x b = ap (λ (y : Row). y.unit) (became w (length rows) es b.index x b.there).is

    back : (r : ℕ) (x : Row) → (slice_get rows r ≡ Some x) ⊎ InBatch rows batch r x → x.unit ≤ r
    back r x (inl h) = c.back r x h
    back r x (inr b) = let u = unit r x b in let m = chain_before es b.index in let i = b.is in omega (arith, u, m, i)

    run : (q r : ℕ) (y x : Row) → (slice_get rows q ≡ Some y) ⊎ InBatch rows batch q y → (slice_get rows r ≡ Some x) ⊎ InBatch rows batch r x → q ≤ r → x.unit ≤ q → y.unit ≡ x.unit
    run q r y x (inl g) (inl h) l k = c.run q r y x g h l k
    run q r y x (inr b) (inl h) l k = absurd (let w = slice_get_within rows r x h in let i = b.is in omega (arith, w, i, l))
    run q r y x (inl g) (inr b) l k = absurd (let w = slice_get_within rows q y g in let u = unit r x b in omega (arith, w, u, k))
    run q r y x (inr d) (inr b) l k =
        let u = unit r x b in
        let i = d.is in
        let j = b.is in
        unit q y d ∙ ap (λ n. length rows + n) (chain_run es b.index d.index (omega (arith, u, i, k)) (omega (arith, i, j, l))) ∙ sym u

-- A row of the changed table was in the same chain before.
record Was (rows : List Row) (r unit : ℕ) : Type 0 where
  pub row : Row
  pub there : slice_get rows r ≡ Some row
  pub same : unit ≡ row.unit

was : (f : Row → Row) (rows : List Row) (i : ℕ) → ((x : Row) → (f x).unit ≡ x.unit) → (r : ℕ) (x : Row) → slice_get (updated f rows i) r ≡ Some x → Was rows r x.unit
was = grind (arith, get-updated)

-- A row changes, but not its chain.
pub chained-updated : (f : Row → Row) (rows : List Row) (i : ℕ) → ((x : Row) → (f x).unit ≡ x.unit) → Chained rows → Chained (updated f rows i)
chained-updated f rows i same c = record {
  back = λ r x h. back r x (was f rows i same r x h);
  run = λ q r y x g h l k. run q r y x (was f rows i same q y g) (was f rows i same r x h) l k;
}
  where
    back : (r : ℕ) (x : Row) → Was rows r x.unit → x.unit ≤ r
    back r x w = let b = c.back r w.row w.there in let u = w.same in omega (arith, b, u)

    run : (q r : ℕ) (y x : Row) → Was rows q y.unit → Was rows r x.unit → q ≤ r → x.unit ≤ q → y.unit ≡ x.unit
    run q r y x v w l k =
        let a = v.same in
        let b = w.same in
        let m = c.run q r v.row w.row v.there w.there l (omega (arith, k, b)) in
        omega (arith, a, b, m)

-- Rows are dropped from the end.
pub chained-take : (rows : List Row) (n : ℕ) → Chained rows → Chained (take n rows)
chained-take = grind (arith, cases_lt, slice_get-take_below, slice_get-take_above)
