-- The encoding of a list of events, which is unique. Bytes are numbers below 256. Numbers are
-- little-endian.
use Rattle.std.specs.Prelude.{◌≡◌, ℕ, ◌<◌, ◌≤◌, ◌^◌, Bool, true, nat_lt, List, [], ◌∷◌, ◌++◌, length, codes}
use Rattle.std.specs.List.{flat_map, AllByRecursion}
use Rattle.byteorder.specs.Endian.{little_bytes}
use Rattle.entries.specs.declared.choice.Choice.{Choice}
use Rattle.entries.specs.declared.choice.Choice.TheVariants.{Full, Short, Eio}
use Rattle.scenario.specs.declared.event.Event.{Event}
use Rattle.scenario.specs.declared.event.Event.TheVariants.{Step, Take, Sleep, Issue, Finish, Expire, Tick}

-- The number of an event's kind.
abbrev pub kind_of : Event → ℕ
kind_of (Step thread) = 1
kind_of (Take n) = 2
kind_of Sleep = 3
kind_of (Issue row) = 4
kind_of (Finish row choice) = 5
kind_of (Expire row) = 6
kind_of (Tick d) = 7

-- An event's number of 32 bits: a thread, a number of entries, or a row.
abbrev pub word_of : Event → ℕ
word_of (Step thread) = thread
word_of (Take n) = n
word_of Sleep = 0
word_of (Issue row) = row
word_of (Finish row choice) = row
word_of (Expire row) = row
word_of (Tick d) = 0

-- The number of a choice.
abbrev pub choice_number : Choice → ℕ
choice_number Full = 0
choice_number (Short n) = n
choice_number Eio = 2 ^ 32

-- An event's number of 64 bits: a choice, or nanoseconds.
abbrev pub wide_of : Event → ℕ
wide_of (Finish row choice) = choice_number choice
wide_of (Tick d) = d
wide_of _ = 0

-- An event: its kind, three zeros, and its two numbers.
abbrev pub event_bytes : Event → List ℕ
event_bytes e = kind_of e ∷ 0 ∷ 0 ∷ 0 ∷ [] ++ little_bytes 4 (word_of e) ++ little_bytes 8 (wide_of e)

-- The number of events, in 32 bits, and the events.
abbrev pub counted_bytes : List Event → List ℕ
counted_bytes events = little_bytes 4 (length events) ++ flat_map event_bytes events

-- The first eight bytes of the first form.
abbrev pub magic : List ℕ
magic = codes "URTRACE1"

-- A trace of the first form.
abbrev pub trace_bytes : List Event → List ℕ
trace_bytes events = magic ++ counted_bytes events

-- A short transfer has at least one byte, and its number of bytes fits 32 bits.
abbrev pub ChoiceFits : Choice → Type 0
ChoiceFits (Short n) = (0 < n) × (n < 2 ^ 32)
ChoiceFits _ = Unit {0}

-- The numbers of an event fit their fields.
abbrev pub Fits : Event → Type 0
Fits (Finish row choice) = (row < 2 ^ 32) × ChoiceFits choice
Fits (Tick d) = d < 2 ^ 64
Fits e = word_of e < 2 ^ 32

-- Whether an event isn't a short transfer of 0 bytes.
abbrev pub has_transfer : Event → Bool
has_transfer (Finish row (Short n)) = nat_lt 0 n
has_transfer _ = true

-- The maximum number of events in a trace.
abbrev pub most_events : ℕ
most_events = 1048576

-- Events that can be encoded.
abbrev pub AreEvents : List Event → Type 0
AreEvents events = (length events ≤ most_events) × AllByRecursion Fits events

-- The bytes are the trace of the events.
abbrev pub IsTrace : List Event → List ℕ → Type 0
IsTrace events bytes = AreEvents events × (bytes ≡ trace_bytes events)
