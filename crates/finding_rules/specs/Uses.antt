-- Findings about puts and closes while an entry or request still uses the slot or descriptor.
use Rattle.std.specs.Prelude.{ℕ, ◌==◌, Bool, false, not, ◌&&◌, ◌||◌, Option, Some, slice_get, List, length, drop, ◌-◌}
use Rattle.finding_rules.specs.Common.{option_map_or, list_any, Sqe, Row, Slot, Entry, is_same, SubWords, sub_list, Instruction, Put, uses_descriptor, is_number, is_queued, is_issued, number_in, view, Machine, Sought, Named, Naming, Usage, Names, Holds}

-- ---- slots

-- Whether an instruction is a put of an entry that differs from the slot's entry.
abbrev pub changes_slot : Machine → Instruction → Bool
changes_slot m (Put slot entry) = not (is_same (view m (Slot slot)) (Some (Entry entry)))
changes_slot m x = false

-- The same for the instruction of an event, if it has one.
abbrev pub changes_at : Machine → Option Instruction → Bool
changes_at m o = option_map_or (changes_slot m) o false

-- ---- descriptors

-- Whether an entry uses descriptor fd.
abbrev pub names_descriptor : ℕ → Sqe → Bool
names_descriptor fd entry = uses_descriptor entry.opcode && is_number (number_in entry.fd) fd

-- ---- indexes that wait in the submission ring (io_uring(7))

-- Whether an index names the sought slot, or a slot whose entry uses the sought descriptor.
abbrev pub is_sought : List Sqe → Sought → ℕ → Bool
is_sought slots (Named slot) word = word == slot
is_sought slots (Naming fd) word = option_map_or (names_descriptor fd) (slice_get slots word) false

-- Whether some pushed and not yet taken index does.
abbrev pub is_pushed : SubWords → Sought → Bool
is_pushed w sought = list_any (is_sought w.slots sought) (sub_list w)

-- The last pushed of them, at most 64.
abbrev pub pushed_last : SubWords → List ℕ
pushed_last w = drop (length (sub_list w) - 64) (sub_list w)

-- Whether a slot is among them.
abbrev pub is_pushed_last : SubWords → ℕ → Bool
is_pushed_last w slot = list_any (is_sought w.slots (Named slot)) (pushed_last w)

-- ---- closed descriptors (close(2), io_uring_enter(2))

-- Whether a request uses descriptor fd: it is queued and names it, or it is issued and holds it.
abbrev pub is_user : Usage → ℕ → Row → Bool
is_user Names fd row = is_queued row.phase && names_descriptor fd row.entry
is_user Holds fd row = is_issued row.phase && is_number row.held fd

-- Whether a queued request names the descriptor, or an entry that was pushed and not yet taken.
abbrev pub is_named : Machine → ℕ → Bool
is_named m fd = list_any (is_user Names fd) m.table || is_pushed m.submissions (Naming fd)

-- Whether an issued request holds it.
abbrev pub is_held : Machine → ℕ → Bool
is_held m fd = list_any (is_user Holds fd) m.table
