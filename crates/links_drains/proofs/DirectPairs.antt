-- The requests of a batch that complete as they are submitted.
use Rattle.links_drains.proofs.Common.{◌≡◌, ℕ, ℤ, true, cond, ◌∙◌, ap, List, ◌++◌, length, ◌+◌, ◌-◌, arith, Option, Some, None, slice_get, option_and_then, Sqe, Row, WorldState, error_at, rows_of, direct_result, direct_of, result_in, Direct, is_unfinished}
use Rattle.links_drains.proofs.{Chains.became, Chains.get-appended, Listing.result_of, Listing.listed_from, Rising.ends_from, Rising.rising_from}

pub direct-batch : (w : WorldState) (rows : List Row) (es : List Sqe) → Direct (rows ++ rows_of w (length rows) es) (direct_of w (length rows) es)
direct-batch w rows es = record {
  each = λ i e h. let x = ends_from test (length rows) batch i e h in (x.row, ap (slice_get (rows ++ batch)) x.is ∙ get-appended rows batch x.index ∙ x.there, x.unfinished);
  rising = λ i j p q h k l. rising_from test (length rows) batch i j p q h k l;
}
  where
    batch : List Row
    batch = rows_of w (length rows) es

    test : ℕ → Row → Option ℤ
    test r row = direct_result w es (r - length rows)

-- The result listed for request i of the batch.
pub direct_at : (w : WorldState) (first : ℕ) (es : List Sqe) (i : ℕ) (row : Row) → slice_get (rows_of w first es) i ≡ Some row → result_in (direct_of w first es) (first + i) ≡ direct_result w es i
direct_at w first es i row h =
    listed_from test first batch i
    ∙ ap (option_and_then (result_of test (first + i))) h
    ∙ ap (λ b. cond b (test (first + i) row) None) queued
    ∙ (let m : first + i - first ≡ i = omega arith in ap (direct_result w es) m)
  where
    batch : List Row
    batch = rows_of w first es

    test : ℕ → Row → Option ℤ
    test r x = direct_result w es (r - first)

    queued : is_unfinished row.phase ≡ true
    queued = ap (λ (x : Row). is_unfinished x.phase) (became w first es i row h).is

-- A request that isn't listed is valid.
pub unlisted_passes : (w : WorldState) (first : ℕ) (es : List Sqe) (i : ℕ) (row : Row) → slice_get (rows_of w first es) i ≡ Some row → result_in (direct_of w first es) (first + i) ≡ None → error_at w es i ≡ None
unlisted_passes = grind (arith, direct_at)
