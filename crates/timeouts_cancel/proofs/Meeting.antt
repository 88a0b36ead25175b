-- Finding the TIMEOUTs whose count is reached, one by one.
use Rattle.timeouts_cancel.proofs.Common.{◌≡◌, ℕ, ℤ, pos, true, false, refl, sym, ◌∙◌, List, [], ◌∷◌, ◌++◌, ◌+◌, arith, Option, Some, None, Row, Ending, given, result_of, is_met, upto, is_some, IfNone, met_rows}
use Rattle.links_drains.specs.Counts.{IsNextMet, NoneMetFrom}
use Rattle.timeouts_cancel.proofs.{Listed.upto_all, Walking.upto_next}

-- ---- From one such TIMEOUT to the next

-- The result of such a TIMEOUT.
abbrev pub met_result : ℕ → ℕ → Row → Option ℤ
met_result total r row = given (is_met total row) (pos 0)

unmet_result : (total r : ℕ) (row : Row) → is_met total row ≡ false → result_of (met_result total) r row ≡ None
unmet_result = grind arith

its_result : (total r : ℕ) (row : Row) → is_met total row ≡ true → result_of (met_result total) r row ≡ Some (pos 0)
its_result = grind arith

pub met_next : (rows : List Row) (total from r : ℕ) (es fs : List Ending) → es ≡ upto (met_result total) rows from → IsNextMet rows total from r → fs ≡ es ++ (r, pos 0) ∷ [] → fs ≡ upto (met_result total) rows (r + 1)
met_next rows total from r es fs h next g =
    let more = upto_next (met_result total) rows from r es next.row h next.after (λ i x l m t. unmet_result total i x (next.least i x l m t)) next.there in
    g ∙ sym (rw (its_result total r next.row next.met) at more)

pub met_all : (rows : List Row) (total from : ℕ) (es : List Ending) → es ≡ upto (met_result total) rows from → NoneMetFrom rows total from → es ≡ met_rows rows total
met_all rows total from es h none = h ∙ upto_all (met_result total) rows from (λ r row l t. unmet_result total r row (none r row l t))

-- Without a next one, there is none.
pub met_none : (rows : List Row) (total : ℕ) (next : Option ℕ) → IfNone next (NoneMetFrom rows total 0) → is_some next ≡ false → met_rows rows total ≡ []
met_none rows total None h n = sym (met_all rows total 0 [] refl h)
met_none rows total (Some r) h n = absurd cc
