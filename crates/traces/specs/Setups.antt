-- The encoding of a setup and a list of events in the second form. It is unique.
use Rattle.std.specs.Prelude.{◌≡◌, ℕ, ◌+◌, ◌*◌, ◌-◌, Bool, not, ◌||◌, ◌==◌, if◌then◌else◌, List, [], ◌∷◌, ◌++◌, length, slice_index, codes, Option, Some, None, unwrap_or, IsTrue}
use Rattle.std.specs.List.{flat_map}
use Rattle.std.specs.Int.{w32, cast_unsigned}
use Rattle.byteorder.specs.Endian.{little_bytes}
use Rattle.entries.specs.Layout.{entry_bytes}
use Rattle.ring_words.specs.Rings.{rounded}
use Rattle.places.specs.declared.object.Object.{Object}
use Rattle.places.specs.declared.object.Contents.{Contents}
use Rattle.places.specs.declared.object.Contents.TheVariants.{File, Pipe, EventFd}
use Rattle.places.specs.declared.object.Descriptor.{Descriptor}
use Rattle.scenario.specs.declared.setup.Instruction.{Instruction}
use Rattle.scenario.specs.declared.setup.Instruction.TheVariants.{Put, Push, Store, Enter, Reap, Close}
use Rattle.scenario.specs.declared.setup.Setup.{Setup}
use Rattle.scenario.specs.declared.event.Event.{Event}
use Rattle.traces.specs.Spelling.{counted_bytes, AreEvents}
use Rattle.scenario.specs.Setups.{setup_refusal}
use Rattle.traces.specs.Limits.{end_number, is_size, Widths}

-- The number of items, in 32 bits, and the items.
abbrev pub list_bytes : {A : Type 0} → (A → List ℕ) → List A → List ℕ
list_bytes item xs = little_bytes 4 (length xs) ++ flat_map item xs

-- The number of bytes, in 32 bits, and the bytes.
abbrev pub long_bytes : List ℕ → List ℕ
long_bytes bytes = little_bytes 4 (length bytes) ++ bytes

-- The kind of an object, and its contents.
abbrev pub contents_bytes : Contents → List ℕ
contents_bytes (File bytes) = little_bytes 1 1 ++ long_bytes bytes
contents_bytes (Pipe capacity) = little_bytes 1 2 ++ little_bytes 4 capacity
contents_bytes (EventFd counter) = little_bytes 1 3 ++ little_bytes 8 counter

-- The length of a name, in 8 bits, and the name.
abbrev pub name_bytes : List ℕ → List ℕ
name_bytes name = little_bytes 1 (length name) ++ name

-- The name and the contents of an object.
abbrev pub object_bytes : Object → List ℕ
object_bytes o = name_bytes o.name ++ contents_bytes o.contents

-- The number of a descriptor's object, and its end.
abbrev pub descriptor_bytes : Descriptor → List ℕ
descriptor_bytes d = little_bytes 1 d.object ++ little_bytes 1 (end_number d.end)

-- The kind and the arguments of an instruction.
abbrev pub instruction_bytes : Instruction → List ℕ
instruction_bytes (Put slot entry) = little_bytes 1 1 ++ (little_bytes 4 slot ++ entry_bytes entry)
instruction_bytes (Push index) = little_bytes 1 2 ++ little_bytes 4 index
instruction_bytes (Store address bytes) = little_bytes 1 3 ++ (little_bytes 4 address ++ long_bytes bytes)
instruction_bytes (Enter to_submit min_complete flags) =
    little_bytes 1 4 ++ (little_bytes 4 to_submit ++ (little_bytes 4 min_complete ++ little_bytes 4 flags))
instruction_bytes Reap = little_bytes 1 5
instruction_bytes (Close fd) = little_bytes 1 6 ++ little_bytes 4 (cast_unsigned w32 fd)

-- The number of instructions, and the instructions.
abbrev pub program_bytes : List Instruction → List ℕ
program_bytes program = list_bytes instruction_bytes program

-- The options: bit 0 for IORING_SETUP_SQPOLL, bit 1 for IORING_SETUP_SUBMIT_ALL.
abbrev pub options_number : Bool → Bool → ℕ
options_number sqpoll submit_all = (if sqpoll then 1 else 0) + (if submit_all then 2 else 0)

-- The sizes of the rings, the options, and the initial value of the heads and tails.
abbrev pub rings_bytes : Setup → List ℕ
rings_bytes s = little_bytes 2 s.entries ++ (little_bytes 2 (unwrap_or s.cq 0) ++ (little_bytes 1 (options_number s.sqpoll s.submit_all) ++ little_bytes 4 s.base))

-- A setup whose sizes are rounded.
abbrev pub setup_bytes : Setup → List ℕ
setup_bytes s =
    rings_bytes s ++ (long_bytes s.memory ++ (list_bytes object_bytes s.objects
    ++ (list_bytes descriptor_bytes s.fds ++ list_bytes program_bytes s.threads)))

-- The first eight bytes of the second form.
abbrev pub magic2 : List ℕ
magic2 = codes "URTRACE2"

-- A trace of the second form.
abbrev pub trace2_bytes : Setup → List Event → List ℕ
trace2_bytes setup events = magic2 ++ (setup_bytes setup ++ counted_bytes events)

-- A byte in front of trimmed bytes. If there are none, a 0 is dropped.
abbrev pub cons_trimmed : ℕ → List ℕ → List ℕ
cons_trimmed b [] = if b == 0 then [] else b ∷ []
cons_trimmed b (c ∷ cs) = b ∷ c ∷ cs

-- The bytes without zeros at the end.
abbrev pub trimmed : List ℕ → List ℕ
trimmed [] = []
trimmed (b ∷ bs) = cons_trimmed b (trimmed bs)

-- Whether bytes don't end with a 0.
abbrev pub is_trimmed : List ℕ → Bool
is_trimmed bytes = (length bytes == 0) || not (slice_index bytes (length bytes - 1) == 0)

-- The size of the completion ring. The default is twice that of the submission ring.
abbrev pub completion_size : ℕ → Option ℕ → ℕ
completion_size entries None = 2 * rounded entries
completion_size entries (Some cq) = rounded cq

-- The same setup with rounded sizes, and memory without zeros at the end.
abbrev pub canonical : Setup → Setup
canonical s = record s {
  entries = rounded s.entries;
  cq = Some (completion_size s.entries s.cq);
  memory = trimmed s.memory;
}

-- A setup with rounded sizes, and memory without a 0 at the end.
pub record IsCanonical (s : Setup) : Type 0 where
  pub entries : IsTrue (is_size 4096 s.entries)
  pub completions : (n : ℕ) × (s.cq ≡ Some n) × IsTrue (is_size 8192 n)
  pub memory : IsTrue (is_trimmed s.memory)

-- The bytes are the trace of these events and of this setup, from which a run can start.
pub record IsTrace2 (setup : Setup) (events : List Event) (bytes : List ℕ) : Type 0 where
  pub canonical : IsCanonical setup
  pub starts : setup_refusal setup ≡ None
  pub widths : Widths setup
  pub are_events : AreEvents events
  pub spelled : bytes ≡ trace2_bytes setup events
