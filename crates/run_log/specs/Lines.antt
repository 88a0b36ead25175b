-- The lines of an event.
use Rattle.std.specs.Prelude.{ℕ, ◌+◌, ◌-◌, List, [], ◌∷◌, ◌++◌, codes, decimal, length, slice_get, Bool, false, if◌then◌else◌, Option, Some, None, option_map, flat_map, option_and_then}
use Rattle.run_log.specs.Common.{option_map_or, Place, MemoryByte, FileByte, DurableByte, PipeByte, Value, same_place, value_text, fitting, place_text, number_of, number_text, Event, Setup, Changed, event_text}

-- ---- rows: single changes and consecutive bytes

-- The next byte of the same kind and object, if the index fits 32 bits.
abbrev pub next_byte : Place → Option Place
next_byte (MemoryByte a) = option_map MemoryByte (fitting (a + 1))
next_byte (FileByte o i) = option_map (FileByte o) (fitting (i + 1))
next_byte (DurableByte o i) = option_map (DurableByte o) (fitting (i + 1))
next_byte (PipeByte o i) = option_map (PipeByte o) (fitting (i + 1))
next_byte _ = None

-- Whether the second place is the byte after the first.
abbrev pub is_next : Place → Place → Bool
is_next p q = option_map_or (λ r. same_place r q) (next_byte p) false

-- Adds a change in front of rows. It joins the first row if that begins with the next byte.
abbrev pub onto : Changed → List (List Changed) → List (List Changed)
onto d [] = (d ∷ []) ∷ []
onto d ([] ∷ rs) = (d ∷ []) ∷ rs
onto d ((e ∷ es) ∷ rs) =
    if is_next d.place e.place then (d ∷ e ∷ es) ∷ rs else (d ∷ []) ∷ (e ∷ es) ∷ rs

-- Splits changes into rows of one line each. Consecutive bytes form a row, and every other change
-- is a row by itself.
abbrev pub rows : List Changed → List (List Changed)
rows [] = []
rows (d ∷ ds) = onto d (rows ds)

-- ---- text

-- A value as text, or `absent`.
abbrev pub value_shown : Option Value → List ℕ
value_shown None = codes "absent"
value_shown (Some v) = value_text v

-- The old values of a row.
abbrev pub olds_text : List Changed → List ℕ
olds_text ds = flat_map (λ d. value_shown d.old) ds

-- The new values of a row.
abbrev pub news_text : List Changed → List ℕ
news_text ds = flat_map (λ d. value_shown d.new) ds

-- `..` and the index of the last byte, for a row of several bytes.
abbrev pub end_text : List Changed → List ℕ
end_text ds =
    number_text (codes "..")
    (option_and_then (λ d. number_of d.place) (slice_get ds (length ds - 1)))

-- The old values and the new values.
abbrev pub values_text : List Changed → List ℕ
values_text ds = codes " " ++ (olds_text ds ++ (codes " -> " ++ news_text ds))

-- The place of a row: its first place, and the end of a row of bytes.
abbrev pub row_place : Setup → List Changed → List ℕ
row_place s [] = []
row_place s (d ∷ ds) = place_text s d.place ++ end_text ds

-- The text of a row: the first place, the end of a row of bytes, and the values.
abbrev pub change_text : Setup → List Changed → List ℕ
change_text s [] = []
change_text s (d ∷ ds) = place_text s d.place ++ (end_text ds ++ values_text (d ∷ ds))

-- The line of a row.
abbrev pub line_text : Setup → List Changed → List ℕ
line_text s ds = codes "  " ++ (change_text s ds ++ codes "\n")

-- The event's index and words, followed by a line for each row of its changes.
abbrev pub event_lines : Setup → ℕ → Event → List Changed → List ℕ
event_lines s i e ds =
    decimal i ++ (codes " " ++ (event_text e ++ (codes "\n" ++ flat_map (line_text s) (rows ds))))
