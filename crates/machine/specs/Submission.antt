-- What a submission consumes from the ring (io_uring_enter(2)).
use Rattle.std.specs.Prelude.{ℕ, zero, suc, ℤ, negsuc, Bool, is_some, if◌then◌else◌, slice_get, List, [], ◌∷◌, length, take}
use Rattle.machine.specs.Common.{WorldState, SubWords, sub_list, Sqe, filter_map, halts, taken_of}
use Rattle.machine.specs.declared.submitting.Entries.{Entries}
use Rattle.machine.specs.declared.submitting.Entries.TheVariants.{One, Many}

-- The entries that index words refer to. A word out of range refers to none.
abbrev pub entries_at : List Sqe → List ℕ → List Sqe
entries_at slots words = filter_map (slice_get slots) words

-- The entries of a submission, as a list.
abbrev pub items_of : Entries → List Sqe
items_of (One entry) = entry ∷ []
items_of (Many entries) = entries.items

-- The words up to and including that of the n-th entry.
abbrev pub up_to_entry : List Sqe → ℕ → List ℕ → List ℕ
up_to_entry slots zero words = []
up_to_entry slots (suc n) [] = []
up_to_entry slots (suc n) (word ∷ words) =
    word ∷ up_to_entry slots (if is_some (slice_get slots word) then n else suc n) words

-- The words that a submission of at most k entries may consume, and the entries that they refer to.
abbrev pub offered : SubWords → ℕ → List ℕ
offered w k = take k (sub_list w)

abbrev pub offered_entries : SubWords → ℕ → List Sqe
offered_entries w k = entries_at w.slots (offered w k)

-- The entries that become requests.
abbrev pub taken_entries : Bool → WorldState → SubWords → ℕ → List Sqe
taken_entries submit_all world w k = taken_of submit_all world (offered_entries w k)

-- The words that are consumed: all, or, if an invalid entry stops the submission, those up to and
-- including that entry's word.
abbrev pub taken_words : Bool → WorldState → SubWords → ℕ → List ℕ
taken_words submit_all world w k =
    if halts submit_all world (offered_entries w k)
    then up_to_entry w.slots (length (taken_entries submit_all world w k)) (offered w k)
    else offered w k

-- -EINVAL: the result of an Enter with unknown flags (errno(3)).
abbrev pub einval : ℤ
einval = negsuc 21

-- -EBADF: the result of a request without a usable descriptor.
abbrev pub ebadf : ℤ
ebadf = negsuc 8

-- -EBUSY: the result of an Enter that would submit while completions overflow.
abbrev pub ebusy : ℤ
ebusy = negsuc 15

-- -ETIME: the result of a timer that expires.
abbrev pub etime : ℤ
etime = negsuc 61
