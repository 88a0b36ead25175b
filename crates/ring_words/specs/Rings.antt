-- The two rings, and the lists of their pending elements (io_uring(7), io_uring_setup(2)).
use Rattle.std.specs.Prelude.{◌≡◌, ℕ, zero, suc, pos, ◌+◌, ◌-◌, ◌%◌, ◌^◌, ◌<◌, ◌≤◌, nat_lt, ◌==◌, not, Bool, true, false, Option, Some, None, option_map, option_to_list, slice_get, slice_index, List, [], ◌∷◌, ◌++◌, length, if◌then◌else◌}
use Rattle.std.specs.List.{Contains}
use Rattle.std.proofs.Math.ListN.{replicate}
use Rattle.std.specs.Int.Bits.{bit_or, bit_and}
use Rattle.entries.specs.declared.completion.Cqe.{Cqe}
use Rattle.entries.specs.declared.entry.Sqe.{Sqe}
use Rattle.places.specs.declared.place.Place.{Place}
use Rattle.places.specs.declared.place.Place.TheVariants.{SubmissionHead, SubmissionTail, SubmissionFlags, SubmissionDropped, CompletionHead, CompletionTail, Array, Slot, Completion}
use Rattle.places.specs.declared.value.Value.{Value}
use Rattle.places.specs.declared.value.Value.TheVariants.{Number, Entry, Completed}
use Rattle.places.specs.View.{View}
use Rattle.ring_words.specs.declared.taken.Taken.{Taken}
use Rattle.ring_words.specs.declared.taken.Taken.TheVariants.{Entry as Taking, Dropped}
use Rattle.ring_words.specs.declared.flag.RingFlag.{RingFlag}
use Rattle.ring_words.specs.declared.flag.RingFlag.TheVariants.{NeedWakeup, CqOverflow}

-- The submission ring: its four words, the index array, and the entry slots.
pub record SubWords : Type 0 where
  pub head : ℕ
  pub tail : ℕ
  pub flags : ℕ
  pub dropped : ℕ
  pub array : List ℕ
  pub slots : List Sqe

-- The completion ring: its two words and its slots.
pub record ComWords : Type 0 where
  pub head : ℕ
  pub tail : ℕ
  pub slots : List Cqe

-- The sizes that a ring can have: powers of two.
abbrev pub sizes : List ℕ
sizes = 1 ∷ 2 ∷ 4 ∷ 8 ∷ 16 ∷ 32 ∷ 64 ∷ 128 ∷ 256 ∷ 512 ∷ 1024 ∷ 2048 ∷ 4096 ∷ 8192 ∷ []

-- One of these sizes, at most a limit.
pub record IsSize (limit n : ℕ) : Type 0 where
  pub power : Contains sizes n
  pub most : n ≤ limit

-- The first element of an ascending list that is at least n.
abbrev pub first_not_below : ℕ → List ℕ → ℕ
first_not_below n [] = 0
first_not_below n (x ∷ xs) = if nat_lt x n then first_not_below n xs else x

-- A number of entries rounded up to a power of two (io_uring_setup(2)); 0 if it is above 8,192.
unfoldable pub rounded : ℕ → ℕ
rounded n = first_not_below n sizes

-- How many elements are pending. Head and tail are free-running 32-bit counters.
abbrev pub waiting : ℕ → ℕ → ℕ
waiting head tail = (tail + (2 ^ 32 - head)) % 2 ^ 32

-- The n elements of a ring from counter value h on. The index of an element is its counter value
-- modulo the size.
abbrev pub items_from : {X : Type 0} → List X → ℕ → ℕ → List X
items_from xs h zero = []
items_from xs h (suc n) = option_to_list (slice_get xs (h % length xs)) ++ items_from xs (h + 1) n

-- The pending words of the index array, the oldest first.
unfoldable pub sub_list : SubWords → List ℕ
sub_list w = items_from w.array w.head (waiting w.head w.tail)

-- The pending completions, the oldest first.
unfoldable pub com_list : ComWords → List Cqe
com_list w = items_from w.slots w.head (waiting w.head w.tail)

-- The word of the index array at the head.
abbrev pub front_word : SubWords → ℕ
front_word w = slice_index w.array (w.head % length w.array)

-- Whether a word is the index of an entry slot.
abbrev pub is_index : SubWords → ℕ → Bool
is_index w i = nat_lt i (length w.slots)

-- The result of taking the word at the head.
abbrev pub taken_of : SubWords → Taken
taken_of w = if is_index w (front_word w) then Taking (front_word w) else Dropped

-- The `dropped` word after that.
abbrev pub dropped_after : ℕ → Taken → ℕ
dropped_after d (Taking slot) = d
dropped_after d Dropped = (d + 1) % 2 ^ 32

-- The bit of a flag in the flags word.
abbrev pub bit_of : RingFlag → ℕ
bit_of NeedWakeup = 1
bit_of CqOverflow = 2

-- Whether a flag is set in a flags word.
abbrev pub has_flag : ℕ → RingFlag → Bool
has_flag flags f = not (bit_and flags (bit_of f) == 0)

-- The flags word with one flag set or cleared.
abbrev pub with_flag : ℕ → RingFlag → Bool → ℕ
with_flag flags f on = if on then bit_or flags (bit_of f) else bit_and flags (2 ^ 32 - 1 - bit_of f)

-- The entry of 64 zero bytes.
abbrev pub zero_entry : Sqe
zero_entry = record {
  opcode = 0;
  flags = 0;
  ioprio = 0;
  fd = pos 0;
  off = 0;
  addr = 0;
  len = 0;
  operation_flags = 0;
  user_data = 0;
  buf_index = 0;
  personality = 0;
  splice_fd_in = pos 0;
  rest = replicate 16 0;
}

-- The initial value of a completion slot.
abbrev pub zero_completion : Cqe
zero_completion = record { user_data = 0; res = pos 0; flags = 0 }

-- The submission ring at the start of a run: head and tail equal the base, and nothing is pending.
abbrev pub sub_start : ℕ → ℕ → SubWords
sub_start entries base = record {
  head = base;
  tail = base;
  flags = 0;
  dropped = 0;
  array = replicate (rounded entries) 0;
  slots = replicate (rounded entries) zero_entry;
}

-- The completion ring at the start of a run.
abbrev pub com_start : ℕ → ℕ → ComWords
com_start entries base =
    record { head = base; tail = base; slots = replicate (rounded entries) zero_completion }

-- The invariant of a submission ring: its sizes, and that its words fit into 32 bits.
pub record SubFormed (w : SubWords) : Type 0 where
  pub size : IsSize 4096 (length w.array)
  pub slots : length w.slots ≡ length w.array
  pub head : w.head < 2 ^ 32
  pub tail : w.tail < 2 ^ 32
  pub flags : w.flags < 2 ^ 32
  pub dropped : w.dropped < 2 ^ 32
  pub words : (i x : ℕ) → slice_get w.array i ≡ Some x → x < 2 ^ 32

-- The invariant of a completion ring.
pub record ComFormed (w : ComWords) : Type 0 where
  pub size : IsSize 8192 (length w.slots)
  pub head : w.head < 2 ^ 32
  pub tail : w.tail < 2 ^ 32

-- The places of the submission ring.
abbrev pub sub_owns : Place → Bool
sub_owns SubmissionHead = true
sub_owns SubmissionTail = true
sub_owns SubmissionFlags = true
sub_owns SubmissionDropped = true
sub_owns (Array i) = true
sub_owns (Slot i) = true
sub_owns _ = false

-- Their values.
abbrev pub sub_seen : SubWords → View
sub_seen w SubmissionHead = Some (Number w.head)
sub_seen w SubmissionTail = Some (Number w.tail)
sub_seen w SubmissionFlags = Some (Number w.flags)
sub_seen w SubmissionDropped = Some (Number w.dropped)
sub_seen w (Array i) = option_map Number (slice_get w.array i)
sub_seen w (Slot i) = option_map Entry (slice_get w.slots i)
sub_seen w _ = None

-- Whether a value can be assigned to a place of the submission ring.
abbrev pub sub_can_put : SubWords → Place → Option Value → Type 0
sub_can_put w SubmissionHead (Some (Number n)) = n < 2 ^ 32
sub_can_put w SubmissionTail (Some (Number n)) = n < 2 ^ 32
sub_can_put w SubmissionFlags (Some (Number n)) = n < 2 ^ 32
sub_can_put w SubmissionDropped (Some (Number n)) = n < 2 ^ 32
sub_can_put w (Array i) (Some (Number n)) = (i < length w.array) × (n < 2 ^ 32)
sub_can_put w (Slot i) (Some (Entry e)) = i < length w.slots
sub_can_put w p v = ⊥

-- The places of the completion ring.
abbrev pub com_owns : Place → Bool
com_owns CompletionHead = true
com_owns CompletionTail = true
com_owns (Completion i) = true
com_owns _ = false

-- Their values.
abbrev pub com_seen : ComWords → View
com_seen w CompletionHead = Some (Number w.head)
com_seen w CompletionTail = Some (Number w.tail)
com_seen w (Completion i) = option_map Completed (slice_get w.slots i)
com_seen w _ = None

-- Whether a value can be assigned to a place of the completion ring.
abbrev pub com_can_put : ComWords → Place → Option Value → Type 0
com_can_put w CompletionHead (Some (Number n)) = n < 2 ^ 32
com_can_put w CompletionTail (Some (Number n)) = n < 2 ^ 32
com_can_put w (Completion i) (Some (Completed c)) = i < length w.slots
com_can_put w p v = ⊥
