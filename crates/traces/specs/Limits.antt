-- The ranges of the values of a setup, as reading and writing check them. All hold if and only if
-- `setup_refusal` returns None. Public contracts use only `setup_refusal`.
use Rattle.std.specs.Prelude.{◌≡◌, ℕ, ◌+◌, ◌-◌, ◌<◌, ◌^◌, Bool, true, false, not, ◌&&◌, ◌||◌, ◌==◌, nat_lt, nat_le, FitsSigned, List, [], ◌∷◌, ◌++◌, length, slice_get, Option, Some, None}
use Rattle.std.specs.List.{list_all, list_any, AllByRecursion}
use Rattle.std.specs.Int.{w32}
use Rattle.entries.specs.Layout.{EntryFits}
use Rattle.ring_words.specs.Rings.{rounded}
use Rattle.places.specs.declared.object.Object.{Object}
use Rattle.places.specs.declared.object.Contents.{Contents}
use Rattle.places.specs.declared.object.Contents.TheVariants.{File, Pipe, EventFd}
use Rattle.places.specs.declared.object.End.{End}
use Rattle.places.specs.declared.object.End.TheVariants.{Whole, Read, Write}
use Rattle.places.specs.declared.object.Descriptor.{Descriptor}
use Rattle.scenario.specs.declared.setup.Instruction.{Instruction}
use Rattle.scenario.specs.declared.setup.Instruction.TheVariants.{Put, Push, Store, Enter, Reap, Close}
use Rattle.scenario.specs.declared.setup.Setup.{Setup}

-- Whether a number is within least..=most.
abbrev pub is_within : ℕ → ℕ → ℕ → Bool
is_within least most n = nat_le least n && nat_le n most

-- The size of a ring: a power of two up to a limit.
abbrev pub is_size : ℕ → ℕ → Bool
is_size most n = nat_le n most && (rounded n == n)

-- The size of a completion ring: at least that of the submission ring.
abbrev pub is_completion_size : ℕ → ℕ → Bool
is_completion_size entries n = is_size 8192 n && nat_le entries n

-- A byte of a name: a to z, 0 to 9, or the underscore.
abbrev pub is_name_byte : ℕ → Bool
is_name_byte b = is_within 97 122 b || is_within 48 57 b || (b == 95)

-- Whether two lists have the same bytes.
abbrev pub is_same : List ℕ → List ℕ → Bool
is_same [] [] = true
is_same [] (c ∷ cs) = false
is_same (b ∷ bs) [] = false
is_same (b ∷ bs) (c ∷ cs) = (b == c) && is_same bs cs

-- Whether one of the objects has the name.
abbrev pub has_name : List Object → List ℕ → Bool
has_name objects name = list_any (λ o. is_same o.name name) objects

-- Whether a name has valid bytes, and no earlier object has it.
abbrev pub is_new_name : List Object → List ℕ → Bool
is_new_name before name = list_all is_name_byte name && not (has_name before name)

-- A file's size, a pipe's capacity (pipe(7)) or an eventfd's counter (eventfd(2)) is in range.
abbrev pub keeps_contents : Contents → Bool
keeps_contents (File bytes) = nat_le (length bytes) 65536
keeps_contents (Pipe capacity) = is_within 1 65536 capacity
keeps_contents (EventFd counter) = nat_lt counter (2 ^ 64 - 1)

-- An object after the earlier ones: its name is new, and its contents are in range.
abbrev pub keeps_object : List Object → Object → Bool
keeps_object before o = is_within 1 16 (length o.name) && is_new_name before o.name && keeps_contents o.contents

-- Each item passes a test that may depend on the items before it.
abbrev pub all_with_prefix : {A : Type 0} → (List A → A → Bool) → List A → List A → Bool
all_with_prefix keeps before [] = true
all_with_prefix keeps before (x ∷ xs) = keeps before x && all_with_prefix keeps (before ++ x ∷ []) xs

-- The number of a descriptor's end.
abbrev pub end_number : End → ℕ
end_number Whole = 0
end_number Read = 1
end_number Write = 2

-- Whether an object with these contents has this end. A pipe has two ends.
abbrev pub is_end_of : Contents → ℕ → Bool
is_end_of (Pipe capacity) n = is_within 1 2 n
is_end_of _ n = n == 0

-- Whether an object exists and has this end.
abbrev pub is_end : Option Object → ℕ → Bool
is_end None n = false
is_end (Some o) n = is_end_of o.contents n

-- A descriptor refers to an object and to one of its ends.
abbrev pub keeps_descriptor : List Object → Descriptor → Bool
keeps_descriptor objects d = is_end (slice_get objects d.object) (end_number d.end)

-- An instruction for a submission ring with this number of slots.
abbrev pub keeps_instruction : ℕ → Instruction → Bool
keeps_instruction slots (Put slot entry) = nat_lt slot slots
keeps_instruction slots (Store address bytes) = nat_le (length bytes) 4096 && nat_le (address + length bytes) 65536
keeps_instruction slots _ = true

-- A program has at most 4,096 valid instructions.
abbrev pub keeps_program : ℕ → List Instruction → Bool
keeps_program slots program = nat_le (length program) 4096 && list_all (keeps_instruction slots) program

-- The number of completion entries is in range and, after rounding, at least that of the submission
-- entries.
abbrev pub keeps_completions : ℕ → Option ℕ → Bool
keeps_completions entries None = true
keeps_completions entries (Some cq) = is_within 1 8192 cq && nat_le (rounded entries) (rounded cq)

-- The sizes of both rings are in range.
abbrev pub keeps_rings : Setup → Bool
keeps_rings s = is_within 1 4096 s.entries && keeps_completions s.entries s.cq

-- Memory has at most 65,536 bytes, and there are at most 32 valid objects and 64 valid descriptors.
abbrev pub keeps_objects : Setup → Bool
keeps_objects s =
    nat_le (length s.memory) 65536 && nat_le (length s.objects) 32 && all_with_prefix keeps_object [] s.objects
    && nat_le (length s.fds) 64 && list_all (keeps_descriptor s.objects) s.fds

-- At most 16 threads with valid programs.
abbrev pub keeps_threads : Setup → Bool
keeps_threads s = nat_le (length s.threads) 16 && list_all (keeps_program (rounded s.entries)) s.threads

-- Whether each value of a setup is in its range, and everything that it refers to exists.
unfoldable pub keeps_ranges : Setup → Bool
keeps_ranges s = keeps_rings s && keeps_objects s && keeps_threads s

-- The numbers of an instruction fit their fields.
abbrev pub HasWidths : Instruction → Type 0
HasWidths (Put slot entry) = EntryFits entry × (length entry.rest ≡ 16)
HasWidths (Push index) = index < 2 ^ 32
HasWidths (Store address bytes) = Unit {0}
HasWidths (Enter to_submit min_complete flags) = (to_submit < 2 ^ 32) × (min_complete < 2 ^ 32) × (flags < 2 ^ 32)
HasWidths Reap = Unit {0}
HasWidths (Close fd) = FitsSigned w32 fd

-- The numbers of a setup fit their fields.
pub record Widths (s : Setup) : Type 0 where
  pub base : s.base < 2 ^ 32
  pub threads : AllByRecursion (AllByRecursion HasWidths) s.threads
