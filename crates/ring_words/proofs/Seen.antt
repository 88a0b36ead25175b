-- The view of a changed ring.
use Rattle.ring_words.proofs.Common.{◌≡◌, ℕ, length, ◌<◌, arith, Some, slice_set, Number, Entry, Completed, field_set, SubWords, ComWords, sub_seen, com_seen, Cqe, Sqe, Place, SubmissionHead, SubmissionTail, SubmissionFlags, SubmissionDropped, CompletionHead, CompletionTail, Array, Slot, Completion}
use Rattle.places.specs.{Places.same_place, View.put_at}

pub com_seen_head : (w : ComWords) (n : ℕ) (q : Place) → com_seen (record w { head = n }) q ≡ put_at (com_seen w) CompletionHead (Some (Number n)) q
unfolding same_place
com_seen_head = grind arith

pub com_seen_tail : (w : ComWords) (n : ℕ) (q : Place) → com_seen (record w { tail = n }) q ≡ put_at (com_seen w) CompletionTail (Some (Number n)) q
unfolding same_place
com_seen_tail = grind arith

pub com_seen_slot : (w : ComWords) (i : ℕ) (c : Cqe) → i < length w.slots → (q : Place) → com_seen (record w { slots = slice_set w.slots i c }) q ≡ put_at (com_seen w) (Completion i) (Some (Completed c)) q
unfolding same_place
com_seen_slot = grind (arith, field_set)

pub sub_seen_head : (w : SubWords) (n : ℕ) (q : Place) → sub_seen (record w { head = n }) q ≡ put_at (sub_seen w) SubmissionHead (Some (Number n)) q
unfolding same_place
sub_seen_head = grind arith

pub sub_seen_tail : (w : SubWords) (n : ℕ) (q : Place) → sub_seen (record w { tail = n }) q ≡ put_at (sub_seen w) SubmissionTail (Some (Number n)) q
unfolding same_place
sub_seen_tail = grind arith

pub sub_seen_flags : (w : SubWords) (n : ℕ) (q : Place) → sub_seen (record w { flags = n }) q ≡ put_at (sub_seen w) SubmissionFlags (Some (Number n)) q
unfolding same_place
sub_seen_flags = grind arith

pub sub_seen_dropped : (w : SubWords) (n : ℕ) (q : Place) → sub_seen (record w { dropped = n }) q ≡ put_at (sub_seen w) SubmissionDropped (Some (Number n)) q
unfolding same_place
sub_seen_dropped = grind arith

pub sub_seen_word : (w : SubWords) (i n : ℕ) → i < length w.array → (q : Place) → sub_seen (record w { array = slice_set w.array i n }) q ≡ put_at (sub_seen w) (Array i) (Some (Number n)) q
unfolding same_place
sub_seen_word = grind (arith, field_set)

pub sub_seen_slot : (w : SubWords) (i : ℕ) (e : Sqe) → i < length w.slots → (q : Place) → sub_seen (record w { slots = slice_set w.slots i e }) q ≡ put_at (sub_seen w) (Slot i) (Some (Entry e)) q
unfolding same_place
sub_seen_slot = grind (arith, field_set)
