-- The shape of a row.
use Rattle.std.specs.Prelude.{◌≡◌, List, [], ◌∷◌, true}
use Rattle.run_log.specs.Common.{Place, Changed}
use Rattle.run_log.specs.Lines.{is_next}

-- Consecutive bytes, the first of which comes after place `p`.
abbrev pub RowContinues : Place → List Changed → Type 0
RowContinues p [] = Unit {0}
RowContinues p (d ∷ ds) = (is_next p d.place ≡ true) × RowContinues d.place ds

-- A single change, or consecutive bytes.
abbrev pub IsRow : List Changed → Type 0
IsRow [] = ⊥
IsRow (d ∷ ds) = RowContinues d.place ds
