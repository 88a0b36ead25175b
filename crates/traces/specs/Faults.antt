-- The first fault, from the left, of bytes that aren't a trace.
use Rattle.std.specs.Prelude.{◌≡◌, ℕ, ◌*◌, ◌<◌, ◌≤◌, ◌^◌, ◌⊎◌, Bool, ◌&&◌, ◌==◌, if◌then◌else◌, nat_lt, nat_le, min, List, length, take, drop, slice_index, Option, Some, None}
use Rattle.byteorder.specs.Endian.{little_number}
use Rattle.traces.specs.declared.fault.TraceFault.{TraceFault}
use Rattle.traces.specs.declared.fault.TraceFault.TheVariants.{Magic, Truncated, Count, Kind, Padding, Trailing, Memory, Setup}
use Rattle.traces.specs.Spelling.{magic, most_events}

-- The number of a fault.
abbrev pub fault_number : TraceFault → ℕ
fault_number Magic = 1
fault_number Truncated = 2
fault_number Count = 3
fault_number Kind = 4
fault_number Padding = 5
fault_number Trailing = 6
fault_number Memory = 7
fault_number (Setup offset) = 8

-- The kinds of events: 1 to 7.
abbrev pub is_kind : ℕ → Bool
is_kind kind = nat_le 1 kind && nat_le kind 7

-- Whether the two numbers of an event are valid for its kind. An unused number is 0.
abbrev pub has_numbers : ℕ → ℕ → ℕ → Bool
has_numbers kind word wide =
    if kind == 3 then (word == 0) && (wide == 0)
    else if kind == 5 then nat_le wide (2 ^ 32)
    else if kind == 7 then word == 0
    else wide == 0

-- Whether the three bytes after the kind are 0, and the numbers are valid for the kind.
abbrev pub is_padded : List ℕ → Bool
is_padded bytes =
    (slice_index bytes 1 == 0) && (slice_index bytes 2 == 0) && (slice_index bytes 3 == 0)
    && has_numbers (slice_index bytes 0) (little_number 4 (drop 4 bytes)) (little_number 8 (drop 8 bytes))

-- The fault of the first event in the bytes.
abbrev pub event_fault : List ℕ → Option TraceFault
event_fault bytes =
    if nat_lt (length bytes) 16 then Some Truncated
    else if is_kind (slice_index bytes 0) then (if is_padded bytes then None else Some Padding)
    else Some Kind

-- The first `count` events have no fault.
abbrev pub AreClean : ℕ → List ℕ → Type 0
AreClean count bytes = (k : ℕ) → k < count → event_fault (drop (16 * k) bytes) ≡ None

-- The first fault among `count` events, or bytes after the last event.
abbrev pub IsEventsFault : ℕ → List ℕ → TraceFault → Type 0
IsEventsFault count bytes Trailing = AreClean count bytes × (16 * count < length bytes)
IsEventsFault count bytes fault =
    (k : ℕ) × (k < count) × AreClean k bytes × (event_fault (drop (16 * k) bytes) ≡ Some fault)

-- The bytes begin with a valid number of events.
abbrev pub HasCount : List ℕ → Type 0
HasCount bytes = (4 ≤ length bytes) × (little_number 4 bytes ≤ most_events)

-- The first fault of a count and its events.
abbrev pub IsCountedFault : List ℕ → TraceFault → Type 0
IsCountedFault bytes Truncated =
    (length bytes < 4) ⊎ (HasCount bytes × IsEventsFault (little_number 4 bytes) (drop 4 bytes) Truncated)
IsCountedFault bytes Count = (4 ≤ length bytes) × (most_events < little_number 4 bytes)
IsCountedFault bytes fault = HasCount bytes × IsEventsFault (little_number 4 bytes) (drop 4 bytes) fault

-- The bytes begin with the magic, or with a part of it if there are fewer than eight.
abbrev pub BeginsAs : List ℕ → List ℕ → Type 0
BeginsAs text bytes = let there = min 8 (length bytes) in take there bytes ≡ take there text

-- The first fault of a trace.
abbrev pub IsFault : List ℕ → TraceFault → Type 0
IsFault bytes Magic = BeginsAs magic bytes → ⊥
IsFault bytes fault = BeginsAs magic bytes × IsCountedFault (drop 8 bytes) fault
