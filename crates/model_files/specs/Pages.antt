-- Pages of a file, 4,096 bytes each, with a mark for those that may not be durable.
use Rattle.std.specs.Prelude.{◌≡◌, ℕ, ◌+◌, ◌*◌, ◌≤◌, ◌<◌, Bool, false, Some, None, slice_get, List}
use Rattle.places.specs.View.{named}
use Rattle.places.specs.declared.place.Place.TheVariants.{DurableByte}
use Rattle.places.specs.declared.value.Change.{Change}
use Rattle.model_files.specs.Files.{FileState, FileSized}

-- The two lists of bytes agree in each page that is not marked.
abbrev pub Agree : List Bool → List ℕ → List ℕ → Type 0
Agree marks bytes durable =
    (page i : ℕ) → slice_get marks page ≡ Some false → page * 4096 ≤ i → i < page * 4096 + 4096
    → slice_get bytes i ≡ slice_get durable i

-- The invariant of a file with page marks: both contents have their size, and they agree in each
-- page that is not marked.
pub record FileTracked (f : FileState) (marks : List Bool) : Type 0 where
  pub sized : FileSized f
  pub clean : Agree marks f.bytes f.durable

-- Each of the first n bytes whose durable value differs has a note.
abbrev pub NamesUpTo : ℕ → FileState → List Change → ℕ → Type 0
NamesUpTo o f notes n =
    (i : ℕ) → i < n → named notes (DurableByte o i) ≡ None
    → slice_get f.bytes i ≡ slice_get f.durable i
