-- The view of a changed backlog.
use Rattle.overflow.proofs.Common.{◌≡◌, ℕ, [], ◌∷◌, ◌++◌, take, length, ◌<◌, ◌+◌, arith, Some, None, slice_set, Cqe, Place, Backlog, BacklogFront, Number, Completed, put_at, BacklogState, backlog_seen, slice_get-set, slice_get-push, slice_get-take}
use Rattle.places.specs.Places.{same_place}

-- After the front is set.
pub seen_front : (b : BacklogState) (n : ℕ) (q : Place) → backlog_seen (record b { front = n }) q ≡ put_at (backlog_seen b) BacklogFront (Some (Number n)) q
unfolding same_place
seen_front = grind arith

-- After a completion is replaced.
pub seen_item : (b : BacklogState) (i : ℕ) (c : Cqe) → i < length b.items → (q : Place) → backlog_seen (record b { items = slice_set b.items i c }) q ≡ put_at (backlog_seen b) (Backlog i) (Some (Completed c)) q
unfolding same_place
seen_item = grind (arith, slice_get-set)

-- After a completion is appended.
pub seen_more : (b : BacklogState) (c : Cqe) (q : Place) → backlog_seen (record b { items = b.items ++ c ∷ [] }) q ≡ put_at (backlog_seen b) (Backlog (length b.items)) (Some (Completed c)) q
unfolding same_place
seen_more = grind (arith, slice_get-push)

-- After the last completion is removed.
pub seen_taken : (b : BacklogState) (i : ℕ) → i + 1 ≡ length b.items → (q : Place) → backlog_seen (record b { items = take i b.items }) q ≡ put_at (backlog_seen b) (Backlog i) None q
unfolding same_place
seen_taken = grind (arith, slice_get-take)
