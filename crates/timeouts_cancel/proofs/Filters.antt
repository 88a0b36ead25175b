-- The rules of the cascade, one after the other.
use Rattle.timeouts_cancel.proofs.Common.{◌≡◌, ℕ, sym, ◌∙◌, ap, subst, List, [], length, ◌+◌, ◌≤◌, arith, Row, Ending, result_in, Direct, joined, with_met, counted_in, fall_of, guarding, severed_endings, result_by, met_rows}
use Rattle.timeouts_cancel.proofs.{Listed.direct_endings, Listed.few_endings, Listed.joined_listed, Listed.joined_none, Meeting.met_result, Tallying.few_counted, Targets.guard_result, Whole.ms}

-- ---- Each rule's list has unfinished rows, by ascending number

pub met_direct : (rows : List Row) (total : ℕ) (es : List Ending) → es ≡ met_rows rows total → Direct rows es
met_direct rows total es h = subst (Direct rows) (sym h) (direct_endings (met_result total) rows)

pub joined_direct : (rows : List Row) (more es all : List Ending) → all ≡ joined rows (λ r row. result_in more r) es → Direct rows all
joined_direct rows more es all h = subst (Direct rows) (sym h) (direct_endings _ rows)

pub guards_direct : (rows : List Row) (listed es : List Ending) → es ≡ guarding rows listed → Direct rows es
guards_direct rows listed es h = subst (Direct rows) (sym h) (direct_endings (guard_result listed) rows)

-- ---- How many there are

pub severed_few : (rows : List Row) (direct es : List Ending) → es ≡ severed_endings rows direct → length es ≤ length rows
severed_few rows direct es h = let l = few_endings (result_by rows direct) rows in let e = ap length h in omega (arith, l, e)

pub counted_few : (rows : List Row) (direct es : List Ending) → es ≡ severed_endings rows direct → counted_in rows es ≤ length rows
counted_few rows direct es h = let l = severed_few rows direct es h in let m = few_counted rows es in omega (arith, l, m)

-- ---- The third rule and the fourth

pub met_so : (rows : List Row) (c total : ℕ) (direct severed met all : List Ending) → severed ≡ severed_endings rows direct → total ≡ c + counted_in rows severed → met ≡ met_rows rows total → all ≡ joined rows (λ r row. result_in met r) severed → all ≡ ms rows c direct
met_so rows c total direct severed met all a t m h =
    h ∙ ap (λ xs. joined rows (λ r row. result_in xs r) severed) m
    ∙ joined_listed (met_result total) rows severed
    ∙ ap (λ n. joined rows (met_result n) severed) t
    ∙ ap (with_met rows c) a

pub cascade_so : (rows : List Row) (c : ℕ) (direct ended guards : List Ending) → ended ≡ ms rows c direct → guards ≡ guarding rows ended → joined rows (λ r row. result_in guards r) ended ≡ fall_of rows c direct
cascade_so rows c direct ended guards e g =
    ap (λ xs. joined rows (λ r row. result_in xs r) ended) g
    ∙ joined_listed (guard_result ended) rows ended
    ∙ ap (λ xs. joined rows (guard_result xs) xs) e

-- ---- A cascade that adds nothing

-- Nothing is severed, no count is reached, and no listed request has a linked timeout.
pub alone : (rows : List Row) (c total : ℕ) (direct : List Ending) → direct ≡ severed_endings rows direct → total ≡ c + counted_in rows direct → met_rows rows total ≡ [] → guarding rows direct ≡ [] → fall_of rows c direct ≡ direct
alone rows c total direct s t m g = sym (cascade_so rows c direct direct [] (met_so rows c total direct direct [] direct s t (sym m) same) (sym g)) ∙ sym same
  where
    same : direct ≡ joined rows (λ r row. result_in [] r) direct
    same = s ∙ sym (joined_none (result_by rows direct) rows) ∙ ap (joined rows (λ r row. result_in [] r)) (sym s)
