-- The places of a changed table.
use Rattle.links_drains.proofs.Common.{◌≡◌, ℕ, List, [], ◌∷◌, ◌++◌, take, length, ◌<◌, ◌+◌, arith, Some, None, slice_set, Row, Requested, put_at, slice_get-set, slice_get-push, slice_get-take, table_seen, Place, Request}
use Rattle.places.specs.Places.{same_place}

-- A row was replaced.
pub seen_row : (rows : List Row) (i : ℕ) (row : Row) → i < length rows → (q : Place) → table_seen (slice_set rows i row) q ≡ put_at (table_seen rows) (Request i) (Some (Requested row)) q
unfolding same_place
seen_row = grind (arith, slice_get-set)

-- A row was added at the end.
pub seen_push : (rows : List Row) (row : Row) (q : Place) → table_seen (rows ++ row ∷ []) q ≡ put_at (table_seen rows) (Request (length rows)) (Some (Requested row)) q
unfolding same_place
seen_push = grind (arith, slice_get-push)

-- The last row was removed.
pub seen_taken : (rows : List Row) (i : ℕ) → i + 1 ≡ length rows → (q : Place) → table_seen (take i rows) q ≡ put_at (table_seen rows) (Request i) None q
unfolding same_place
seen_taken = grind (arith, slice_get-take)
