-- Finding the linked timeouts of listed requests, one by one.
use Rattle.timeouts_cancel.proofs.Common.{◌≡◌, ℕ, ℤ, Bool, true, false, cond, refl, ◌∙◌, ap, List, ◌++◌, length, ◌+◌, ◌<◌, ◌≤◌, ◌⊎◌, arith, Option, Some, None, slice_get, option_map_or, append-nil, slice_get_within, Row, Ending, paired, given, ecanceled, Direct, is_guard, is_unfinished, result_of, guards_listed, GuardsAreLinked, guarding, guards_row, Guarded, upto}
use Rattle.timeouts_cancel.proofs.{Again.any_at, Again.any_found, Listed.upto_all, Sweeping.same_ending, Walking.of_one, Walking.split, Walking.take_past, Walking.upto_more, Walking.upto_to}

-- The result of a linked timeout.
abbrev pub guard_result : List Ending → ℕ → Row → Option ℤ
guard_result listed r row = given (guards_listed listed row) ecanceled

-- ---- Rows that are no linked timeout of a listed request

-- The listed request that is the target of a linked timeout.
pub record GuardsListed (rows : List Row) (listed : List Ending) (row : Row) : Type 0 where
  pub index : ℕ
  pub ending : Ending
  pub there : slice_get listed index ≡ Some ending
  pub guards : is_guard row ≡ true
  pub target : row.target ≡ Some ending.0

guards_so : (rows : List Row) (listed : List Ending) (row : Row) → guards_listed listed row ≡ true → GuardsListed rows listed row
guards_so = grind (arith, any_found)

-- A row that doesn't come directly after a listed one is no linked timeout of one.
no_guard : (rows : List Row) (listed : List Ending) (r : ℕ) (row : Row) → GuardsAreLinked rows → slice_get rows r ≡ Some row → ((j : ℕ) (e : Ending) → slice_get listed j ≡ Some e → e.0 + 1 ≡ r → ⊥) → result_of (guard_result listed) r row ≡ None
no_guard rows listed r row linked h none = by (is_unfinished row.phase) (guards_listed listed row) refl refl
  where
    by : (u b : Bool) → is_unfinished row.phase ≡ u → guards_listed listed row ≡ b → cond u (given b ecanceled) None ≡ None
    by false b u g = refl
    by true false u g = refl
    by true true u g = absurd (let w = guards_so rows listed row g in none w.index w.ending w.there (linked r w.ending.0 row h w.guards u w.target))

-- ---- The row after a listed one

-- A listed request is in the table.
pub listed_within : (rows : List Row) (listed : List Ending) (i : ℕ) (e : Ending) → Direct rows listed → slice_get listed i ≡ Some e → e.0 < length rows
listed_within rows listed i e d h = let row = d.each i e h in slice_get_within rows e.0 row.0 row.1

its_guard : (rows : List Row) (listed : List Ending) (i : ℕ) (e : Ending) (row : Row) → GuardsAreLinked rows → slice_get listed i ≡ Some e → slice_get rows (e.0 + 1) ≡ Some row → result_of (guard_result listed) (e.0 + 1) row ≡ cond (guards_row e.0 row) (Some ecanceled) None
its_guard = grind (arith, any_at)

pub guarded_next : (rows : List Row) (listed : List Ending) (i : ℕ) (es fs : List Ending) (e : Ending) (b : Bool) → GuardsAreLinked rows → Direct rows listed → Guarded rows listed i es → slice_get listed i ≡ Some e
    → b ≡ option_map_or (guards_row e.0) (slice_get rows (e.0 + 1)) false → fs ≡ es ++ of_one (paired (e.0 + 1) (cond b (Some ecanceled) None)) → Guarded rows listed (i + 1) fs
guarded_next rows listed i es fs e b linked d w h g k = record {
  to = e.0 + 1 + 1;
  found = k ∙ ap (λ xs. xs ++ of_one (paired (e.0 + 1) (cond b (Some ecanceled) None))) before ∙ ap (λ z. upto f rows (e.0 + 1) ++ of_one (paired (e.0 + 1) (cond z (Some ecanceled) None))) g ∙ beyond (slice_get rows (e.0 + 1)) refl;
  below = λ j p q l. low j p q l (split j i);
  above = λ j p q l. let x = d.rising i j e p h q (omega (arith, l)) in omega (arith, x);
}
  where
    f : ℕ → Row → Option ℤ
    f = guard_result listed

    low : (j : ℕ) (p : Ending) → slice_get listed j ≡ Some p → j < i + 1 → (j < i) ⊎ (i ≤ j) → p.0 + 1 < e.0 + 1 + 1
    low = grind arith

    none : (r : ℕ) (row : Row) → w.to ≤ r → r < e.0 + 1 → slice_get rows r ≡ Some row → result_of f r row ≡ None
    none = grind (arith, no_guard, split, same_ending)

    before : es ≡ upto f rows (e.0 + 1)
    before = upto_to f rows w.to (e.0 + 1) es w.found (w.above i e h (omega arith)) (λ r row l m t. none r row l m t)

    beyond : (o : Option Row) → slice_get rows (e.0 + 1) ≡ o → upto f rows (e.0 + 1) ++ of_one (paired (e.0 + 1) (cond (option_map_or (guards_row e.0) (slice_get rows (e.0 + 1)) false) (Some ecanceled) None)) ≡ upto f rows (e.0 + 1 + 1)
    beyond None t = rw (t, take_past rows (e.0 + 1) t) (append-nil (upto f rows (e.0 + 1)))
    beyond (Some row) t = let g = its_guard rows listed i e row linked h t in rw (upto_more f rows (e.0 + 1) row t, g, t) refl

pub guarded_all : (rows : List Row) (listed : List Ending) (i : ℕ) (es : List Ending) → GuardsAreLinked rows → Guarded rows listed i es → length listed ≤ i → es ≡ guarding rows listed
guarded_all = grind (arith, upto_all, no_guard, slice_get_within)
