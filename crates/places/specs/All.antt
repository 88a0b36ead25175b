-- The notes of all kinds as one list of changes, and the invariant of a recorder.
use Rattle.std.specs.Prelude.{◌≡◌, ◌⊎◌, ℕ, List, [], ◌++◌, None, map, true, is_some, ◌+◌, ◌<◌, ◌≤◌}
use Rattle.places.specs.declared.place.Place.{Place}
use Rattle.places.specs.declared.value.Change.{Change}
use Rattle.places.specs.declared.notes.numbers.NumberNote.{NumberNote}
use Rattle.places.specs.declared.notes.completions.CompletionNote.{CompletionNote}
use Rattle.places.specs.declared.notes.rows.RowNote.{RowNote}
use Rattle.places.specs.declared.notes.room.Room.{Room}
use Rattle.places.specs.Slots.{number_change, completion_change, row_change}
use Rattle.places.specs.Runs.{run_changes, AllKept}
use Rattle.places.specs.Marks.{SlotList}
use Rattle.places.specs.RestList.{RestList}
use Rattle.places.specs.WideList.{WideList}
use Rattle.places.specs.View.{named}

-- The notes of numbers, completions, and requests and other places, followed by those of bytes.
abbrev pub kind_changes : List NumberNote → List CompletionNote → List RowNote → List Change → List Change
kind_changes ns cs rs bs = map number_change ns ++ (map completion_change cs ++ (map row_change rs ++ bs))

-- These, followed by the notes of single places.
abbrev pub all_changes : List NumberNote → List CompletionNote → List RowNote → RestList → List Change
all_changes ns cs rs x = kind_changes ns cs rs (run_changes x.runs x.olds) ++ x.odd

-- The changes of a record: the packed ones, and then those of its unpacked notes.
abbrev pub record_changes : List Change → WideList → RestList → List Change
record_changes cs w x = cs ++ all_changes w.numbers w.completions w.rows x

-- There are no notes of numbers, completions or rows, and no memory is reserved.
pub record NothingNoted (ns : List NumberNote) (cs : List CompletionNote) (rs : List RowNote) (r : Room) : Type 0 where
  pub numbers : ns ≡ []
  pub completions : cs ≡ []
  pub rows : rs ≡ []
  pub held : r.held ≡ 0

-- Either the box for unpacked notes is allocated, or there are no notes that it may have to take.
abbrev pub IsReady : List NumberNote → List CompletionNote → List RowNote → Room → WideList → Type 0
IsReady ns cs rs r w = (w.is_ready ≡ true) ⊎ NothingNoted ns cs rs r

-- There is memory for n more notes with slots below `limit`.
pub record HasRoom {X : Type 0} (n limit : ℕ) (s : SlotList X) : Type 0 where
  pub spare : n ≤ s.spare
  pub reached : 0 < n → limit ≤ s.reached

-- The invariant of a recorder: no place has both a single note and a note of a kind, and the
-- reserved memory is there.
pub record IsSound (ns : SlotList NumberNote) (cs : SlotList CompletionNote) (rs : SlotList RowNote) (x : RestList) (r : Room) : Type 0 where
  pub apart : (p : Place) → is_some (named x.odd p) ≡ true → named (kind_changes ns.notes cs.notes rs.notes (run_changes x.runs x.olds)) p ≡ None
  pub kept : AllKept x.olds
  pub numbers : HasRoom r.numbers 8192 ns
  pub completions : HasRoom r.completions 8192 cs
  pub rows : HasRoom r.others 262144 rs
  pub held : r.held ≡ r.numbers + (r.completions + r.others)
  pub spare : r.held ≤ x.spare
