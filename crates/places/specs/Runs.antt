-- Recorded bytes, in runs, as changes of places.
use Rattle.std.specs.Prelude.{◌≡◌, ℕ, List, [], ◌∷◌, ◌++◌, Option, Some, None, Bool, ◌+◌, ◌==◌, ◌&&◌, nat_le, nat_lt, if◌then◌else◌, take, drop, length, ◌≤◌, ◌^◌}
use Rattle.places.specs.declared.place.Place.{Place}
use Rattle.places.specs.declared.place.Place.TheVariants.{MemoryByte, FileByte, DurableByte, PipeByte}
use Rattle.places.specs.declared.value.Value.{Value}
use Rattle.places.specs.declared.value.Value.TheVariants.{Byte}
use Rattle.places.specs.declared.value.Change.{Change}
use Rattle.places.specs.declared.notes.runs.Region.{Region}
use Rattle.places.specs.declared.notes.runs.Region.TheVariants.{Memory, File, Durable, Pipe}
use Rattle.places.specs.declared.notes.runs.Run.{Run}
use Rattle.places.specs.Places.{kind_of, index_of, second_of}
use Rattle.places.specs.View.{NamesOnce, named, first_note}

-- The place of byte i of a region.
abbrev pub place_in : Region → ℕ → Place
place_in Memory i = MemoryByte i
place_in (File o) i = FileByte o i
place_in (Durable o) i = DurableByte o i
place_in (Pipe o) i = PipeByte o i

-- Whether a place is a byte of the region.
abbrev pub is_in : Region → Place → Bool
is_in Memory p = 9 == kind_of p
is_in (File o) p = (10 == kind_of p) && (o == index_of p)
is_in (Durable o) p = (11 == kind_of p) && (o == index_of p)
is_in (Pipe o) p = (16 == kind_of p) && (o == index_of p)

-- The index of a byte within its region.
abbrev pub offset_in : Region → Place → ℕ
offset_in Memory p = index_of p
offset_in (File o) p = second_of p
offset_in (Durable o) p = second_of p
offset_in (Pipe o) p = second_of p

-- Runs, their old bytes with `None` for dropped ones, and whether each byte can still be dropped.
pub record ByteList : Type 0 where
  pub runs : List Run
  pub olds : List (Option ℕ)
  pub is_open : Bool

-- The number of bytes in all runs.
abbrev pub run_total : List Run → ℕ
run_total [] = 0
run_total (r ∷ rs) = r.len + run_total rs

-- The changes of bytes of a region from index s on, without the dropped ones.
abbrev pub old_bytes : Region → ℕ → List (Option ℕ) → List Change
old_bytes g s [] = []
old_bytes g s (None ∷ os) = old_bytes g (s + 1) os
old_bytes g s (Some b ∷ os) = record { place = place_in g s; old = Some (Byte b) } ∷ old_bytes g (s + 1) os

-- The changes of all runs. `os` has their bytes in order.
abbrev pub run_changes : List Run → List (Option ℕ) → List Change
run_changes [] os = []
run_changes (r ∷ rs) os = old_bytes r.region r.start (take r.len os) ++ run_changes rs (drop r.len os)

-- The note of index i, among bytes that begin at index s.
abbrev pub byte_from : ℕ → List ℕ → ℕ → Option (Option Value)
byte_from s [] i = None
byte_from s (b ∷ bs) i = if s == i then Some (Some (Byte b)) else byte_from (s + 1) bs i

-- The note of a place, among bytes of region g that begin at index s.
abbrev pub byte_in : Region → ℕ → List ℕ → Place → Option (Option Value)
byte_in g s bs p = if is_in g p then byte_from s bs (offset_in g p) else None

-- `after` are the notes `before` with those of the bytes from index s on added. A place
-- that had a note keeps it.
abbrev pub NotedBytes : List Change → List Change → Region → ℕ → List ℕ → Type 0
NotedBytes before after g s bs = (q : Place) → named after q ≡ first_note (named before q) (byte_in g s bs q)

-- No run ends past index 2^32.
abbrev pub RunsFit : List Run → Type 0
RunsFit [] = Unit {0}
RunsFit (r ∷ rs) = (r.start + r.len ≤ 2 ^ 32) × RunsFit rs

-- There is an old byte for each byte of the runs, and no place is recorded twice.
pub record RunsOnce (rs : List Run) (os : List (Option ℕ)) : Type 0 where
  pub fits : run_total rs ≡ length os
  pub within : RunsFit rs
  pub once : NamesOnce (run_changes rs os)

-- No byte is dropped.
abbrev pub AllKept : List (Option ℕ) → Type 0
AllKept [] = Unit {0}
AllKept (None ∷ os) = ⊥
AllKept (Some b ∷ os) = AllKept os

-- Whether a place is a byte of the run.
abbrev pub covers : Run → Place → Bool
covers r p = is_in r.region p && (nat_le r.start (offset_in r.region p) && nat_lt (offset_in r.region p) (r.start + r.len))

-- The changes that an iterator will return, and a bound on the steps that this takes.
pub record ByteRest : Type 0 where
  pub left : List Change
  pub work : ℕ
