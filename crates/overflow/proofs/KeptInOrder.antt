-- Facts about posting and flushing, from the definitions only.
use Rattle.overflow.proofs.Common.{◌≡◌, ℕ, true, refl, sym, List, [], ◌++◌, length, take, drop, append_assoc, length-append, length-drop, drop-drop, ◌+◌, ◌≤◌, min, arith, not, ◌==◌, append-nil, take-append-drop, drop-append-le, length-take-le, Cqe, CqOverflow, ComWords, waiting, com_list, has_flag, BacklogState, kept, is_clear, free_slots, Delivery, DeliveryFormed, fits, backlog_with, backlog_flushed, all_posted, flushed, common_steps, com_length}
use Rattle.ring_words.proofs.Flags.{flag_set}
use Rattle.overflow.proofs.Posting.{posted_slots, posted_well, posted_waits, posted_list}

none_left : (xs : List Cqe) → (length xs == 0) ≡ true → xs ≡ []
none_left = grind (arith, common_steps)

-- An empty list of pending completions.
pub kept_clear : (b : BacklogState) → is_clear b ≡ true → kept b ≡ []
kept_clear b h = none_left (kept b) h

-- The pending completions after an append.
pub kept_with : (b : BacklogState) (cs : List Cqe) → b.front ≤ length b.items → kept (backlog_with b cs) ≡ kept b ++ cs
kept_with b cs f = drop-append-le b.front b.items cs f

drop_more : (n k : ℕ) (xs : List Cqe) → drop (n + k) xs ≡ drop k (drop n xs)
drop_more n k xs = sym (drop-drop k n xs)

-- The pending completions after k of them are flushed.
pub kept_flushed : (b : BacklogState) (k : ℕ) → kept (backlog_flushed b k) ≡ drop k (kept b)
kept_flushed b k = drop_more b.front k b.items

-- At most n completions go into the ring, and at most as many as it has room for.
pub fits_least : (w : ComWords) (b : BacklogState) (n : ℕ) → fits w b n ≤ n
fits_least = grind arith

pub fits_room : (w : ComWords) (b : BacklogState) (n : ℕ) → fits w b n ≤ free_slots w
fits_room = grind arith

pub fits_clear : (w : ComWords) (b : BacklogState) (n : ℕ) → is_clear b ≡ true → fits w b n ≡ min n (free_slots w)
fits_clear w b n h = rw h refl

-- The completions that go into the ring fit.
room_for : (d : Delivery) (cs : List Cqe) (i : ℕ) → DeliveryFormed d → i ≤ length cs → i ≤ free_slots d.completions → waiting d.completions.head d.completions.tail + length (take i cs) ≤ length d.completions.slots
room_for d cs i f l r = let n = length-take-le i cs l in let w = f.waits in omega (arith, n, w)

-- Posting loses no completion and preserves the order.
pub posted_in_row : (d : Delivery) (cs : List Cqe) → DeliveryFormed d → com_list (all_posted d cs).completions ++ kept (all_posted d cs).backlog ≡ (com_list d.completions ++ kept d.backlog) ++ cs
posted_in_row = grind (arith, posted_list, room_for, fits_least, fits_room, kept_with, kept_clear, append_assoc, take-append-drop, append-nil)

-- If none is pending, as many completions go into the ring as fit.
pub posted_into_ring : (d : Delivery) (cs : List Cqe) → DeliveryFormed d → is_clear d.backlog ≡ true → length (com_list (all_posted d cs).completions) ≡ min (length (com_list d.completions) + length cs) (length d.completions.slots)
posted_into_ring = grind (arith, fits_least, fits_room, posted_list, room_for, length-append, length-take-le, com_length, fits_clear)

-- The overflow flag is set if and only if a completion is pending.
pub posted_flag : (d : Delivery) (cs : List Cqe) → has_flag (all_posted d cs).submissions.flags CqOverflow ≡ not (is_clear (all_posted d cs).backlog)
posted_flag d cs = flag_set d.submissions.flags CqOverflow (not (is_clear (all_posted d cs).backlog))

-- The invariant is preserved.
pub posted_formed : (d : Delivery) (cs : List Cqe) → DeliveryFormed d → DeliveryFormed (all_posted d cs)
posted_formed = grind (arith, room_for, fits_least, fits_room, posted_waits, posted_slots, length-append, posted_well)

-- The ring keeps its size.
pub posted_size : (d : Delivery) (cs : List Cqe) → length (all_posted d cs).completions.slots ≡ length d.completions.slots
posted_size d cs = posted_slots d.completions (take (fits d.completions d.backlog (length cs)) cs)

-- How many completions a flush moves.
abbrev pub moved : Delivery → ℕ
moved d = min (length (kept d.backlog)) (free_slots d.completions)

moved_least : (d : Delivery) → moved d ≤ length (kept d.backlog)
moved_least d = omega arith

moved_room : (d : Delivery) → moved d ≤ free_slots d.completions
moved_room d = omega arith

-- A flush loses no completion and preserves the order.
pub flushed_in_row : (d : Delivery) → DeliveryFormed d → com_list (flushed d).completions ++ kept (flushed d).backlog ≡ com_list d.completions ++ kept d.backlog
flushed_in_row = grind (arith, posted_list, room_for, moved_least, moved_room, kept_flushed, append_assoc, take-append-drop)

-- A flush moves as many completions into the ring as fit.
pub flushed_into_ring : (d : Delivery) → DeliveryFormed d → length (com_list (flushed d).completions) ≡ min (length (com_list d.completions) + length (kept d.backlog)) (length d.completions.slots)
flushed_into_ring = grind (arith, posted_list, room_for, moved_least, moved_room, length-append, length-take-le, com_length)

-- The overflow flag is set if and only if a completion is pending.
pub flushed_flag : (d : Delivery) → has_flag (flushed d).submissions.flags CqOverflow ≡ not (is_clear (flushed d).backlog)
flushed_flag d = flag_set d.submissions.flags CqOverflow (not (is_clear (flushed d).backlog))

-- The invariant is preserved.
pub flushed_formed : (d : Delivery) → DeliveryFormed d → DeliveryFormed (flushed d)
flushed_formed = grind (arith, room_for, moved_least, moved_room, posted_waits, posted_slots, length-drop, posted_well)

-- The ring keeps its size.
pub flushed_size : (d : Delivery) → length (flushed d).completions.slots ≡ length d.completions.slots
flushed_size d = posted_slots d.completions (take (moved d) (kept d.backlog))

-- What the theorems of the crate say.
pub ruleset laws = (posted_in_row, posted_into_ring, posted_flag, flushed_in_row, flushed_into_ring, flushed_flag)
