-- Adding the rest of a chain that was severed.
use Rattle.timeouts_cancel.proofs.Common.{◌≡◌, ℕ, zero, suc, true, cond, refl, sym, ◌∙◌, ap, List, [], ◌∷◌, ◌++◌, length, ◌+◌, ◌<◌, ◌≤◌, arith, Some, None, slice_get, take_all, slice_get_within, Row, is_soft_linked, Chained, is_unfinished, Ending, paired, endings, ecanceled, Direct, is_severed, is_bad, Severs, Walked, Sweeping, own_endings, severed_endings, result_by}
use Rattle.timeouts_cancel.proofs.Walking.{of_one, upto_gap, upto_next, test_direct, test_other, severed_if, NotDirect, split, between, listed_direct, below_next, above_next}

pub none_within : {X : Type 0} (zs : List X) (n : ℕ) → slice_get zs n ≡ None → n < length zs → ⊥
none_within [] n e l = omega (arith, l)
none_within (z ∷ zs) zero e l = cc
none_within (z ∷ zs) (suc n) e l = none_within zs n e (omega (arith, l))

pub same_row : (a b : Row) → Some a ≡ Some b → a ≡ b
same_row a b k = cc

pub same_ending : (a b : Ending) → Some a ≡ Some b → a ≡ b
same_ending a b k = cc

pub sweep_start : (rows : List Row) (direct : List Ending) (k i : ℕ) (es : List Ending) (e : Ending) (row : Row) → Direct rows direct → Walked rows direct k i es → slice_get direct i ≡ Some e → slice_get rows e.0 ≡ Some row
    → is_soft_linked row ≡ true → is_bad row e.1 ≡ true → Sweeping rows direct (e.0 + 1) (i + 1) (es ++ e ∷ []) row.unit
sweep_start rows direct k i es e row d w h t s b = record {
  listed = listed_direct rows direct k i es e row d w h t;
  below = below_next rows direct k i es e d w h;
  above = above_next rows direct i e d h;
  from = record { at = i; cause = e; there = h; head = row; is_head = t; soft = s; bad = b; unit_is = refl; clear = λ r x j p l g q. w.clear r x j p (let low = w.above i e h (omega arith) in omega (arith, low, l)) g q };
  passed = omega arith;
  run = grind arith;
}

pub sweep_direct : (rows : List Row) (direct : List Ending) (k i : ℕ) (es : List Ending) (unit : ℕ) (e : Ending) (row : Row) → Direct rows direct → Sweeping rows direct k i es unit → slice_get direct i ≡ Some e → e.0 ≡ k → slice_get rows k ≡ Some row → row.unit ≡ unit
    → Sweeping rows direct (k + 1) (i + 1) (es ++ e ∷ []) unit
sweep_direct rows direct k i es unit e row d w h m t u = record {
  listed =
      let there : slice_get rows e.0 ≡ Some row = ap (slice_get rows) m ∙ t in
      let more = upto_next (result_by rows direct) rows k e.0 es row w.listed (omega arith) (λ r x a b. absurd (omega arith)) there in
      rw (← m) (sym (rw (test_direct rows direct i e row d h there) at more));
  below = grind arith;
  above = grind arith;
  from = w.from;
  passed = let l = w.passed in omega (arith, l);
  run = grind arith;
}

-- A row of the chain that is no direct completion.
not_direct : (rows : List Row) (direct : List Ending) (k i : ℕ) (es : List Ending) (unit : ℕ) → Sweeping rows direct k i es unit → ((j : ℕ) (e : Ending) → slice_get direct j ≡ Some e → i ≤ j → e.0 ≡ k → ⊥) → NotDirect direct k
not_direct = grind arith

pub sweep_other : (rows : List Row) (direct : List Ending) (k i : ℕ) (es fs : List Ending) (unit : ℕ) (row : Row) → Direct rows direct → Sweeping rows direct k i es unit → ((j : ℕ) (e : Ending) → slice_get direct j ≡ Some e → i ≤ j → e.0 ≡ k → ⊥)
    → slice_get rows k ≡ Some row → row.unit ≡ unit → fs ≡ es ++ of_one (paired k (cond (is_unfinished row.phase) (Some ecanceled) None)) → Sweeping rows direct (k + 1) i fs unit
sweep_other rows direct k i es fs unit row d w other t u f =
    let c = w.from in
    let severs : Severs rows k row c.cause = record { before = c.head; there = c.is_head; less = w.below c.at c.cause c.there w.passed; unit = c.unit_is ∙ sym u; soft = c.soft; bad = c.bad } in
    let b : is_severed rows (own_endings rows direct) k row ≡ true = severed_if rows direct k row c.at c.cause d c.there severs in
    let one = test_other rows direct k row t (not_direct rows direct k i es unit w other) in
    record {
      listed = f ∙ sym (rw (one, b) at (upto_next (result_by rows direct) rows k k es row w.listed (omega arith) (λ r x a b. absurd (omega arith)) t));
      below = grind arith;
      above = grind arith;
      from = c;
      passed = w.passed;
      run = grind arith;
    }

-- If the next direct completion isn't for row k, no later one is.
pub others_later : (rows : List Row) (direct : List Ending) (k i : ℕ) → Direct rows direct → ((j : ℕ) (e : Ending) → slice_get direct j ≡ Some e → i ≤ j → k ≤ e.0) → ((e : Ending) → slice_get direct i ≡ Some e → e.0 ≡ k → ⊥) → (j : ℕ) (e : Ending) → slice_get direct j ≡ Some e → i ≤ j → e.0 ≡ k → ⊥
others_later = grind (arith, split, slice_get_within, none_within)

-- At the end of the chain, or of the table, nothing more is severed.
pub sweep_end : (rows : List Row) (direct : List Ending) (k i : ℕ) (es : List Ending) (unit : ℕ) → Chained rows → Direct rows direct → Sweeping rows direct k i es unit → ((row : Row) → slice_get rows k ≡ Some row → row.unit ≡ unit → ⊥) → Walked rows direct k i es
sweep_end = grind (arith, split, slice_get_within, none_within, same_ending)

-- ---- The end of the pass

pub walked_all : (rows : List Row) (direct : List Ending) (k i : ℕ) (es : List Ending) → Walked rows direct k i es → length direct ≤ i → es ≡ severed_endings rows direct
walked_all rows direct k i es w l =
    let gap = upto_gap (result_by rows direct) rows k (length rows) (λ r x a b g. between rows direct k i es r x w a (λ j p q m. let n = slice_get_within direct j p q in absurd (omega (arith, n, l, m))) g) in
    w.listed ∙ sym gap ∙ ap (endings (result_by rows direct)) (take_all (k + length rows) rows (omega arith))
