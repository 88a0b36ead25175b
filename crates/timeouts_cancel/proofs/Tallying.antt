-- How many listed completions count for TIMEOUTs.
use Rattle.timeouts_cancel.proofs.Common.{◌≡◌, ℕ, ℤ, zero, suc, Bool, true, false, cond, refl, sym, ◌∙◌, ap, subst, List, [], ◌∷◌, length, ◌+◌, ◌≤◌, arith, Option, Some, slice_get, is_some, ◌&&◌, option_map_or, filter, cons_option, eqb-true, Row, is_unfinished, counts, Ending, result_in, paired, endings, or_else, given, endings_from, is_guard, is_met, counted_in, endings_step, result_of}
use Rattle.timeouts_cancel.proofs.Again.{listed_row}

-- How many rows, numbered from n, count and have a result.
abbrev pub tally : (ℕ → Row → Option ℤ) → ℕ → List Row → ℕ
tally f n [] = 0
tally f n (row ∷ rows) = cond (counts row && is_some (result_of f n row)) 1 0 + tally f (n + 1) rows

tallied : (look : ℕ → Bool) (f : ℕ → Row → Option ℤ) (n : ℕ) (rows : List Row) → ((i : ℕ) (row : Row) → slice_get rows i ≡ Some row → look (n + i) ≡ counts row)
    → length (filter (λ (e : Ending). look e.0) (endings_from f n rows)) ≡ tally f n rows
tallied look f n [] h = refl
tallied look f n (row ∷ rows) h =
    let m : n + zero ≡ n = omega arith in
    let here : look n ≡ counts row = subst (λ k. look k ≡ counts row) m (h zero row refl) in
    let more = tallied look f (n + 1) rows (λ i x e. let k : n + suc i ≡ n + 1 + i = omega arith in subst (λ j. look j ≡ counts x) k (h (suc i) x e)) in
    ap (λ (es : List Ending). length (filter (λ (e : Ending). look e.0) es)) (endings_step f n row rows)
    ∙ by (result_of f n row) (look n) (counts row) refl here more
  where
    by : (o : Option ℤ) (a b : Bool) → look n ≡ a → a ≡ b → length (filter (λ (e : Ending). look e.0) (endings_from f (n + 1) rows)) ≡ tally f (n + 1) rows
        → length (filter (λ (e : Ending). look e.0) (cons_option (paired n o) (endings_from f (n + 1) rows))) ≡ cond (b && is_some o) 1 0 + tally f (n + 1) rows
    by = grind arith

tally_alike : (f g : ℕ → Row → Option ℤ) (n : ℕ) (rows : List Row) → ((i : ℕ) (row : Row) → slice_get rows i ≡ Some row → counts row ≡ true → is_some (result_of f (n + i) row) ≡ is_some (result_of g (n + i) row)) → tally f n rows ≡ tally g n rows
tally_alike f g n [] h = refl
tally_alike f g n (row ∷ rows) h =
    let m : n + zero ≡ n = omega arith in
    let here : counts row ≡ true → is_some (result_of f n row) ≡ is_some (result_of g n row) = subst (λ k. counts row ≡ true → is_some (result_of f k row) ≡ is_some (result_of g k row)) m (h zero row refl) in
    let more = tally_alike f g (n + 1) rows (λ i x e. let k : n + suc i ≡ n + 1 + i = omega arith in subst (λ j. counts x ≡ true → is_some (result_of f j x) ≡ is_some (result_of g j x)) k (h (suc i) x e)) in
    by (counts row) refl here more
  where
    by : (b : Bool) → counts row ≡ b → (counts row ≡ true → is_some (result_of f n row) ≡ is_some (result_of g n row)) → tally f (n + 1) rows ≡ tally g (n + 1) rows
        → cond (b && is_some (result_of f n row)) 1 0 + tally f (n + 1) rows ≡ cond (b && is_some (result_of g n row)) 1 0 + tally g (n + 1) rows
    by = grind arith

-- Two functions that have results for the same counted rows have the same count.
pub counted_alike : (f g : ℕ → Row → Option ℤ) (rows : List Row) → ((r : ℕ) (row : Row) → slice_get rows r ≡ Some row → is_unfinished row.phase ≡ true → counts row ≡ true → is_some (f r row) ≡ is_some (g r row))
    → counted_in rows (endings f rows) ≡ counted_in rows (endings g rows)
counted_alike f g rows h = tallied look f 0 rows at ∙ tally_alike f g 0 rows both_ways ∙ sym (tallied look g 0 rows at)
  where
    look : ℕ → Bool
    look r = option_map_or counts (slice_get rows r) false

    at : (i : ℕ) (row : Row) → slice_get rows i ≡ Some row → option_map_or counts (slice_get rows (0 + i)) false ≡ counts row
    at i row e = let m : 0 + i ≡ i = omega arith in ap (λ k. option_map_or counts (slice_get rows k) false) m ∙ ap (λ (o : Option Row). option_map_or counts o false) e

    both_ways : (i : ℕ) (row : Row) → slice_get rows i ≡ Some row → counts row ≡ true → is_some (result_of f (0 + i) row) ≡ is_some (result_of g (0 + i) row)
    both_ways = grind arith

pub few_counted : (rows : List Row) (es : List Ending) → counted_in rows es ≤ length es
few_counted rows [] = omega arith
few_counted rows (e ∷ es) = grind (arith, few_counted rows es)

-- ---- What doesn't count

pub guard_counts : (row : Row) → is_guard row ≡ true → counts row ≡ false
guard_counts row h = let o : row.entry.opcode ≡ 15 = eqb-true row.entry.opcode 15 h in rw o refl

pub met_counts : (total : ℕ) (row : Row) → is_met total row ≡ true → counts row ≡ false
met_counts = grind arith

-- A result for a row that doesn't count doesn't change whether a counted row is listed.
same_listed : (o : Option ℤ) (b : Bool) (res : ℤ) → b ≡ false → is_some (or_else o (given b res)) ≡ is_some o
same_listed = grind arith

not_both : (a b : Bool) → (a ≡ true → b ≡ false) → b ≡ true → a ≡ false
not_both = grind arith

-- The TIMEOUTs and linked timeouts that a rule adds don't count.
pub joined_counts : (rows : List Row) (g : ℕ → Row → Option ℤ) (test : ℕ → Row → Bool) (res : ℤ) → ((r : ℕ) (row : Row) → test r row ≡ true → counts row ≡ false)
    → counted_in rows (endings (λ r row. or_else (result_in (endings g rows) r) (given (test r row) res)) rows) ≡ counted_in rows (endings g rows)
joined_counts = grind (arith, counted_alike, same_listed, not_both, listed_row)
