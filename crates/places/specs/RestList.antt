-- The rarer kinds of notes, as contracts see them.
use Rattle.std.specs.Prelude.{ℕ, List, Option}
use Rattle.places.specs.declared.value.Change.{Change}
use Rattle.places.specs.declared.notes.runs.Run.{Run}

-- Runs with their old bytes, notes of single places, and how many more of
-- these there is memory for.
pub record RestList : Type 0 where
  pub runs : List Run
  pub olds : List (Option ℕ)
  pub odd : List Change
  pub spare : ℕ

-- Notes of single places, and how many more there is memory for.
pub record OddList : Type 0 where
  pub notes : List Change
  pub spare : ℕ
