-- Overflowed completions, and how completions are posted and flushed without loss
-- (io_uring_setup(2), IORING_FEAT_NODROP).
use Rattle.std.specs.Prelude.{◌≡◌, ℕ, ◌+◌, ◌-◌, ◌%◌, ◌^◌, ◌<◌, ◌≤◌, ◌==◌, not, min, Bool, true, false, Option, Some, None, option_map, slice_get, slice_set, List, [], ◌∷◌, ◌++◌, length, take, drop, if◌then◌else◌}
use Rattle.entries.specs.declared.completion.Cqe.{Cqe}
use Rattle.places.specs.declared.place.Place.{Place}
use Rattle.places.specs.declared.place.Place.TheVariants.{SubmissionHead, SubmissionTail, SubmissionFlags, SubmissionDropped, CompletionHead, CompletionTail, Array, Slot, Completion, Backlog, BacklogFront}
use Rattle.places.specs.declared.value.Value.{Value}
use Rattle.places.specs.declared.value.Value.TheVariants.{Number, Completed}
use Rattle.places.specs.View.{View}
use Rattle.ring_words.specs.declared.flag.RingFlag.TheVariants.{CqOverflow}
use Rattle.ring_words.specs.Rings.{SubWords, ComWords, waiting, with_flag, ComFormed, sub_seen, com_seen}

-- All completions that ever overflowed, numbered over the whole run. Those before the front have
-- been flushed.
pub record BacklogState : Type 0 where
  pub items : List Cqe
  pub front : ℕ

-- The pending completions, which have not been flushed yet.
abbrev pub kept : BacklogState → List Cqe
kept b = drop b.front b.items

-- Whether no completion is pending.
abbrev pub is_clear : BacklogState → Bool
is_clear b = length (kept b) == 0

-- The backlog at the start of a run.
abbrev pub backlog_start : BacklogState
backlog_start = record { items = []; front = 0 }

-- The front fits into 32 bits.
pub record BacklogFormed (b : BacklogState) : Type 0 where
  pub front : b.front < 2 ^ 32

-- The places of the backlog.
abbrev pub backlog_owns : Place → Bool
backlog_owns (Backlog i) = true
backlog_owns BacklogFront = true
backlog_owns _ = false

-- Their values.
abbrev pub backlog_seen : BacklogState → View
backlog_seen b (Backlog i) = option_map Completed (slice_get b.items i)
backlog_seen b BacklogFront = Some (Number b.front)
backlog_seen b _ = None

-- What can be assigned: a completion to an existing place, absence to the last one, and a 32-bit
-- number to the front.
abbrev pub backlog_can_put : BacklogState → Place → Option Value → Type 0
backlog_can_put b (Backlog i) (Some (Completed c)) = i < length b.items
backlog_can_put b (Backlog i) None = i + 1 ≡ length b.items
backlog_can_put b BacklogFront (Some (Number n)) = n < 2 ^ 32
backlog_can_put b p v = ⊥

-- ---- The completion ring

-- How many more completions fit into the ring.
abbrev pub free_slots : ComWords → ℕ
free_slots w = length w.slots - waiting w.head w.tail

-- The ring with a completion appended.
abbrev pub posted_one : ComWords → Cqe → ComWords
posted_one w c =
    record w { tail = (w.tail + 1) % 2 ^ 32; slots = slice_set w.slots (w.tail % length w.slots) c }

-- The ring with completions appended.
abbrev pub posted_in_order : ComWords → List Cqe → ComWords
posted_in_order w [] = w
posted_in_order w (c ∷ cs) = posted_in_order (posted_one w c) cs

-- ---- The parts that posting changes

-- The submission ring, which has the overflow flag, the completion ring, and the backlog.
pub record Delivery : Type 0 where
  pub submissions : SubWords
  pub completions : ComWords
  pub backlog : BacklogState

abbrev pub delivery_of : SubWords → ComWords → BacklogState → Delivery
delivery_of s c b = record { submissions = s; completions = c; backlog = b }

-- Their places.
abbrev pub delivery_owns : Place → Bool
delivery_owns SubmissionHead = true
delivery_owns SubmissionTail = true
delivery_owns SubmissionFlags = true
delivery_owns SubmissionDropped = true
delivery_owns (Array i) = true
delivery_owns (Slot i) = true
delivery_owns CompletionHead = true
delivery_owns CompletionTail = true
delivery_owns (Completion i) = true
delivery_owns (Backlog i) = true
delivery_owns BacklogFront = true
delivery_owns _ = false

-- The values of their places, taken from the part that owns each.
abbrev pub delivery_seen : Delivery → View
delivery_seen d SubmissionHead = sub_seen d.submissions SubmissionHead
delivery_seen d SubmissionTail = sub_seen d.submissions SubmissionTail
delivery_seen d SubmissionFlags = sub_seen d.submissions SubmissionFlags
delivery_seen d SubmissionDropped = sub_seen d.submissions SubmissionDropped
delivery_seen d (Array i) = sub_seen d.submissions (Array i)
delivery_seen d (Slot i) = sub_seen d.submissions (Slot i)
delivery_seen d CompletionHead = com_seen d.completions CompletionHead
delivery_seen d CompletionTail = com_seen d.completions CompletionTail
delivery_seen d (Completion i) = com_seen d.completions (Completion i)
delivery_seen d (Backlog i) = backlog_seen d.backlog (Backlog i)
delivery_seen d BacklogFront = backlog_seen d.backlog BacklogFront
delivery_seen d _ = None

-- The invariant between steps: the ring holds no more completions than it has slots, and the front
-- is not past the end of the backlog.
pub record DeliveryFormed (d : Delivery) : Type 0 where
  pub completions : ComFormed d.completions
  pub waits : waiting d.completions.head d.completions.tail ≤ length d.completions.slots
  pub front : d.backlog.front ≤ length d.backlog.items

-- The submission ring with IORING_SQ_CQ_OVERFLOW set if and only if a completion is pending.
abbrev pub flagged : SubWords → BacklogState → SubWords
flagged s b = record s { flags = with_flag s.flags CqOverflow (not (is_clear b)) }

-- How many of n new completions go into the ring: none while any is pending, else as many as fit.
abbrev pub fits : ComWords → BacklogState → ℕ → ℕ
fits w b n = if is_clear b then min n (free_slots w) else 0

-- The backlog with completions appended.
abbrev pub backlog_with : BacklogState → List Cqe → BacklogState
backlog_with b cs = record b { items = b.items ++ cs }

-- The three parts after the first i completions go into the ring, and the rest into the backlog.
abbrev pub all_posted_at : Delivery → List Cqe → ℕ → Delivery
all_posted_at d cs i = record {
  submissions = flagged d.submissions (backlog_with d.backlog (drop i cs));
  completions = posted_in_order d.completions (take i cs);
  backlog = backlog_with d.backlog (drop i cs);
}

-- The three parts after a list of completions is posted.
abbrev pub all_posted : Delivery → List Cqe → Delivery
all_posted d cs = all_posted_at d cs (fits d.completions d.backlog (length cs))

-- The backlog after k pending completions are flushed.
abbrev pub backlog_flushed : BacklogState → ℕ → BacklogState
backlog_flushed b k = record b { front = b.front + k }

-- The three parts after the first k pending completions move into the ring.
abbrev pub flushed_at : Delivery → ℕ → Delivery
flushed_at d k = record {
  submissions = flagged d.submissions (backlog_flushed d.backlog k);
  completions = posted_in_order d.completions (take k (kept d.backlog));
  backlog = backlog_flushed d.backlog k;
}

-- The three parts after a flush: pending completions move into the ring, in order, while they fit.
abbrev pub flushed : Delivery → Delivery
flushed d = flushed_at d (min (length (kept d.backlog)) (free_slots d.completions))
