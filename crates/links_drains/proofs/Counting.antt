-- How the counts of completed requests change with the table.
use Rattle.links_drains.proofs.Common.{◌≡◌, ℕ, ℤ, zero, suc, Bool, true, false, cond, List, [], ◌∷◌, ◌++◌, length, ◌+◌, ◌≤◌, arith, Some, slice_get, ◌&&◌, filter, Ended, Row, updated, is_ended, counts, counted_of, ended_of, common_steps, length-filter, count_by-le-length}

-- ---- Counts of rows that pass a test

pub matching-more : (p : Row → Bool) (row : Row) (rows : List Row) → length (filter p (row ∷ rows)) ≡ cond (p row) 1 0 + length (filter p rows)
matching-more = grind arith

pub matching-append : (p : Row → Bool) (rows others : List Row) → length (filter p (rows ++ others)) ≡ length (filter p rows) + length (filter p others)
matching-append = grind (arith, common_steps)

pub matching-updated : (p : Row → Bool) (f : Row → Row) (rows : List Row) (i : ℕ) (row : Row) → slice_get rows i ≡ Some row →
    length (filter p (updated f rows i)) + cond (p row) 1 0 ≡ length (filter p rows) + cond (p (f row)) 1 0
matching-updated p f [] i row h = absurd cc
matching-updated p f (x ∷ rows) zero row h = grind arith
matching-updated p f (x ∷ rows) (suc i) row h = grind (arith, matching-updated p f rows i row h)

pub matching-le-length : (p : Row → Bool) (rows : List Row) → length (filter p rows) ≤ length rows
matching-le-length p rows = omega (arith, length-filter p rows, count_by-le-length p rows)

-- ---- Completed requests that count for TIMEOUTs

pub counted-append : (rows others : List Row) → counted_of (rows ++ others) ≡ counted_of rows + counted_of others
counted-append rows others = matching-append (λ r. is_ended r.phase && counts r) rows others

-- One row changes.
pub counted-updated : (f : Row → Row) (rows : List Row) (i : ℕ) (row : Row) → slice_get rows i ≡ Some row →
    counted_of (updated f rows i) + cond (is_ended row.phase && counts row) 1 0 ≡ counted_of rows + cond (is_ended (f row).phase && counts (f row)) 1 0
counted-updated f rows i row h = matching-updated (λ r. is_ended r.phase && counts r) f rows i row h

-- The count is at most the number of rows.
pub counted-le-length : (rows : List Row) → counted_of rows ≤ length rows
counted-le-length rows = matching-le-length (λ r. is_ended r.phase && counts r) rows

-- An unfinished request completes.
pub counted-ended : (rows : List Row) (r : ℕ) (row : Row) (res : ℤ) → slice_get rows r ≡ Some row → is_ended row.phase ≡ false →
    counted_of (updated (λ row. record row { phase = Ended res }) rows r) ≡ cond (counts row) (counted_of rows + 1) (counted_of rows)
counted-ended rows r row res h u = by (counts row) (rw u at (counted-updated (λ row. record row { phase = Ended res }) rows r row h))
  where
    by : (b : Bool) → counted_of (updated (λ row. record row { phase = Ended res }) rows r) + 0 ≡ counted_of rows + cond b 1 0 →
        counted_of (updated (λ row. record row { phase = Ended res }) rows r) ≡ cond b (counted_of rows + 1) (counted_of rows)
    by true k = omega (arith, k)
    by false k = omega (arith, k)

-- An unfinished request changes and remains unfinished, for example when it is issued.
pub counted-unfinished : (f : Row → Row) (rows : List Row) (r : ℕ) (row : Row) → slice_get rows r ≡ Some row → is_ended row.phase ≡ false → is_ended (f row).phase ≡ false →
    counted_of (updated f rows r) ≡ counted_of rows
counted-unfinished f rows r row h u v = let k = rw (u, v) at (counted-updated f rows r row h) in omega (arith, k)

-- ---- Completed requests

pub ended-append : (rows others : List Row) → ended_of (rows ++ others) ≡ ended_of rows + ended_of others
ended-append rows others = matching-append (λ r. is_ended r.phase) rows others

-- An unfinished request completes.
pub ended-ended : (rows : List Row) (r : ℕ) (row : Row) (res : ℤ) → slice_get rows r ≡ Some row → is_ended row.phase ≡ false →
    ended_of (updated (λ row. record row { phase = Ended res }) rows r) ≡ ended_of rows + 1
ended-ended rows r row res h u = let k = rw u at (matching-updated (λ x. is_ended x.phase) (λ row. record row { phase = Ended res }) rows r row h) in omega (arith, k)

-- An unfinished request changes and remains unfinished.
pub ended-unfinished : (f : Row → Row) (rows : List Row) (r : ℕ) (row : Row) → slice_get rows r ≡ Some row → is_ended row.phase ≡ false → is_ended (f row).phase ≡ false →
    ended_of (updated f rows r) ≡ ended_of rows
ended-unfinished f rows r row h u v = let k = rw (u, v) at (matching-updated (λ x. is_ended x.phase) f rows r row h) in omega (arith, k)

-- The count is at most the number of rows.
pub ended-le-length : (rows : List Row) → ended_of rows ≤ length rows
ended-le-length rows = matching-le-length (λ r. is_ended r.phase) rows
