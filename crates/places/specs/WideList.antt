-- Unpacked notes of each kind, as contracts see them.
use Rattle.std.specs.Prelude.{Bool, List}
use Rattle.places.specs.declared.notes.numbers.NumberNote.{NumberNote}
use Rattle.places.specs.declared.notes.completions.CompletionNote.{CompletionNote}
use Rattle.places.specs.declared.notes.rows.RowNote.{RowNote}

-- The notes, and whether the box for them is allocated.
pub record WideList : Type 0 where
  pub numbers : List NumberNote
  pub completions : List CompletionNote
  pub rows : List RowNote
  pub is_ready : Bool
