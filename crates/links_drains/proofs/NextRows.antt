-- The first row, from a number on, that passes a test, found by sets of numbers.
use Rattle.links_drains.proofs.Common.{◌≡◌, ℕ, Bool, true, false, refl, sym, ◌∙◌, ap, List, ◌<◌, ◌≤◌, ◌⊎◌, inl, inr, arith, not, option_map_or, filter, enumerate_from, and_from, and_left, cases_lt, slice_get-map, Row, Queued, Issued, Ended, next_where, IsNextWhere, NoneWhere, is_queued, is_issued, is_unfinished, has, IsNext, NoneFrom, passes_at, is_issued_row, is_open, Phase, is_queued_row, IsNextQueued, NoneQueuedFrom, nat_tests}
use Rattle.std.specs.Prelude.{Option, Some, None, map, option_map, slice_get, ◌&&◌, nat_le}
use Rattle.bit_sets.specs.Difference.{in_difference, IsNextInDifference, NoneInDifference}
use Rattle.links_drains.proofs.{Filters.first_numbered, Filters.none_numbered, Units.passes_here}

-- ---- By the set of the rows that pass

module _ (test : Row → Bool) (rows : List Row) (member : ℕ → Bool) (ties : (q : ℕ) → member q ≡ passes_at test rows q) where
  found : (from r : ℕ) → from ≤ r → member r ≡ true → ((i : ℕ) → from ≤ i → i < r → member i ≡ false) → IsNextWhere test rows from r
  found from r after is least = by (slice_get rows r) refl
    where
      by : (o : Option Row) → slice_get rows r ≡ o → IsNextWhere test rows from r
      by None e = absurd (let k = sym is ∙ ties r ∙ ap (λ (o : Option Row). option_map_or test o false) e in cc)
      by (Some row) e = record {
        after = after;
        row = row;
        there = e;
        passes = sym (passes_here test rows r row e) ∙ sym (ties r) ∙ is;
        least = λ i x low high g. sym (passes_here test rows i x g) ∙ sym (ties i) ∙ least i low high;
      }

  none : (from : ℕ) → ((i : ℕ) → from ≤ i → member i ≡ false) → NoneWhere test rows from
  none from absent = λ i x low g. sym (passes_here test rows i x g) ∙ sym (ties i) ∙ absent i low

pub next_found : (test : Row → Bool) (rows : List Row) (words : List ℕ) (from r : ℕ) → ((q : ℕ) → has words q ≡ passes_at test rows q) → IsNext words from r → IsNextWhere test rows from r
next_found test rows words from r ties next = found test rows (has words) ties from r next.after next.member next.least

pub none_found : (test : Row → Bool) (rows : List Row) (words : List ℕ) (from : ℕ) → ((q : ℕ) → has words q ≡ passes_at test rows q) → NoneFrom words from → NoneWhere test rows from
none_found test rows words from ties absent = none test rows (has words) ties from absent

-- A request is queued exactly if it is unfinished and not issued.
phase_queued : (p : Phase) → (is_unfinished p && not (is_issued p)) ≡ is_queued p
phase_queued Queued = refl
phase_queued Issued = refl
phase_queued (Ended res) = refl

there_queued : (o : Option Row) → (option_map_or is_open o false && not (option_map_or is_issued_row o false)) ≡ option_map_or is_queued_row o false
there_queued None = refl
there_queued (Some row) = phase_queued row.phase

difference_queued : (rows : List Row) (unended issued_rows : List ℕ) → ((q : ℕ) → has unended q ≡ passes_at is_open rows q) → ((q : ℕ) → has issued_rows q ≡ passes_at is_issued_row rows q)
    → (r : ℕ) → in_difference unended issued_rows r ≡ passes_at is_queued_row rows r
difference_queued rows unended issued_rows f g r = ap (λ b. b && not (has issued_rows r)) (f r) ∙ ap (λ b. passes_at is_open rows r && not b) (g r) ∙ there_queued (slice_get rows r)

pub queued_found : (rows : List Row) (unended issued_rows : List ℕ) (from r : ℕ) → ((q : ℕ) → has unended q ≡ passes_at is_open rows q) → ((q : ℕ) → has issued_rows q ≡ passes_at is_issued_row rows q)
    → IsNextInDifference unended issued_rows from r → IsNextQueued rows from r
queued_found rows unended issued_rows from r f g next = found is_queued_row rows (in_difference unended issued_rows) (difference_queued rows unended issued_rows f g) from r next.after next.member next.least

pub none_queued : (rows : List Row) (unended issued_rows : List ℕ) (from : ℕ) → ((q : ℕ) → has unended q ≡ passes_at is_open rows q) → ((q : ℕ) → has issued_rows q ≡ passes_at is_issued_row rows q)
    → NoneInDifference unended issued_rows from → NoneQueuedFrom rows from
none_queued rows unended issued_rows from f g absent = none is_queued_row rows (in_difference unended issued_rows) (difference_queued rows unended issued_rows f g) from absent

-- ---- As a filter

abbrev is_late : (Row → Bool) → ℕ → ℕ × Row → Bool
is_late test from p = nat_le from p.0 && test p.1

fails : (a b : Bool) → b ≡ false → (a && b) ≡ false
fails true b e = e
fails false b e = refl

before : (from i : ℕ) → i < from → nat_le from i ≡ false
before from i l = grind (arith, nat_tests, l)

pub next_is : (test : Row → Bool) (rows : List Row) (from r : ℕ) → IsNextWhere test rows from r → next_where test rows from ≡ Some r
next_is test rows from r next =
    let low : nat_le from r ≡ true = let a = next.after in grind (arith, nat_tests, a) in
    slice_get-map (λ (p : ℕ × Row). p.0) (filter (is_late test from) (enumerate_from 0 rows)) 0
    ∙ ap (option_map (λ (p : ℕ × Row). p.0)) (first_numbered (is_late test from) rows r next.row next.there (and_from _ _ low next.passes) (λ i x l g. by i x l g (cases_lt i from)))
  where
    by : (i : ℕ) (x : Row) → i < r → slice_get rows i ≡ Some x → (i < from) ⊎ (from ≤ i) → is_late test from (i, x) ≡ false
    by i x l g (inl less) = and_left _ _ (before from i less)
    by i x l g (inr le) = fails _ _ (next.least i x le l g)

pub none_is : (test : Row → Bool) (rows : List Row) (from : ℕ) → NoneWhere test rows from → next_where test rows from ≡ None
none_is test rows from absent = ap (λ (ps : List (ℕ × Row)). slice_get (map (λ (p : ℕ × Row). p.0) ps) 0) (none_numbered (is_late test from) rows (λ i x g. by i x g (cases_lt i from)))
  where
    by : (i : ℕ) (x : Row) → slice_get rows i ≡ Some x → (i < from) ⊎ (from ≤ i) → is_late test from (i, x) ≡ false
    by i x g (inl less) = and_left _ _ (before from i less)
    by i x g (inr le) = fails _ _ (absent i x le g)
