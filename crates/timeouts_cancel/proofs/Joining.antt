-- Merging two lists of completions, one by one.
use Rattle.timeouts_cancel.proofs.Common.{◌≡◌, ℕ, ℤ, sym, ◌∙◌, List, [], ◌∷◌, ◌++◌, length, ◌+◌, ◌<◌, ◌≤◌, arith, Option, Some, None, slice_get, Row, Ending, result_in, or_else, Direct, result_of, joined, Splits, IsLeast, Merged}
use Rattle.timeouts_cancel.proofs.{Listed.splits_to, Listed.splits_out, Listed.splits_past, Listed.upto_all, Walking.result_at, Walking.upto_next}

-- The result in the first list, or else in the second.
abbrev pub both_of : List Ending → List Ending → ℕ → Row → Option ℤ
both_of first second r row = or_else (result_in first r) (result_in second r)

neither : (first second : List Ending) (r : ℕ) (row : Row) → result_in first r ≡ None → result_in second r ≡ None → result_of (both_of first second) r row ≡ None
neither = grind arith

-- ---- The next completion of the two lists

-- It is for none of the rows already merged.
pub least_on : (rows : List Row) (first second : List Ending) (k i j : ℕ) (es : List Ending) (e : Ending) → Merged rows first second k i j es → IsLeast first second i j e → k ≤ e.0
least_on = grind arith

pub firsts_least : (rows : List Row) (first second : List Ending) (k i j : ℕ) (es : List Ending) (e : Ending) → Direct rows first → Merged rows first second k i j es → IsLeast first second i j e → Splits first e.0 i
firsts_least rows first second k i j es e d m least = splits_to first k i e.0 d.rising m.firsts (least_on rows first second k i j es e m least) least.first_later

pub seconds_least : (rows : List Row) (first second : List Ending) (k i j : ℕ) (es : List Ending) (e : Ending) → Direct rows second → Merged rows first second k i j es → IsLeast first second i j e → Splits second e.0 j
seconds_least rows first second k i j es e d m least = splits_to second k j e.0 d.rising m.seconds (least_on rows first second k i j es e m least) least.second_later

-- It is for an unfinished row, and has the result of the merged list.
there_is : (rows : List Row) (first second : List Ending) (k i j : ℕ) (es : List Ending) (e : Ending) → Direct rows first → Direct rows second → Merged rows first second k i j es → IsLeast first second i j e
    → (row : Row) × (slice_get rows e.0 ≡ Some row) × (result_of (both_of first second) e.0 row ≡ Some e.1)
there_is = grind (arith, result_of, result_at, least_on, splits_to, splits_out)

pub merged_next : (rows : List Row) (first second : List Ending) (k i j p q : ℕ) (es fs : List Ending) (e : Ending) → Direct rows first → Direct rows second → Merged rows first second k i j es → IsLeast first second i j e
    → Splits first (e.0 + 1) p → Splits second (e.0 + 1) q → fs ≡ es ++ e ∷ [] → Merged rows first second (e.0 + 1) p q fs
merged_next rows first second k i j p q es fs e d f m least a b h =
    let w = there_is rows first second k i j es e d f m least in
    let next = upto_next (both_of first second) rows k e.0 es w.0 m.listed (least_on rows first second k i j es e m least) (λ r row l g t. between r row l g) w.1 in
    record { listed = h ∙ sym (rw w.2 at next); firsts = a; seconds = b }
  where
    between : (r : ℕ) (row : Row) → k ≤ r → r < e.0 → result_of (both_of first second) r row ≡ None
    between r row l g =
        neither first second r row
        (splits_out first k e.0 i r m.firsts (firsts_least rows first second k i j es e d m least) l g)
        (splits_out second k e.0 j r m.seconds (seconds_least rows first second k i j es e f m least) l g)

-- ---- The end of both lists

pub merged_all : (rows : List Row) (first second : List Ending) (k i j : ℕ) (es : List Ending) → Merged rows first second k i j es → length first ≤ i → length second ≤ j → es ≡ joined rows (λ r row. result_in second r) first
merged_all rows first second k i j es m a b = m.listed ∙ upto_all (both_of first second) rows k (λ r row l t. neither first second r row (splits_past first k i r m.firsts a l) (splits_past second k j r m.seconds b l))
