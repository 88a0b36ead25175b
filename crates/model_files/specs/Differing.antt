-- Comparison of old and new bytes, and which old bytes are recorded. Public contracts don't use it.
use Rattle.std.specs.Prelude.{◌≡◌, ◌≢◌, ℕ, ◌+◌, ◌-◌, ◌≤◌, ◌<◌, ◌⊎◌, None, slice_get, List, length}
use Rattle.places.specs.declared.place.Place.{Place}
use Rattle.places.specs.declared.notes.runs.Region.{Region}
use Rattle.places.specs.declared.value.Change.{Change}
use Rattle.places.specs.Runs.{place_in, byte_in}
use Rattle.places.specs.View.{named, first_note}

-- Two lists of bytes agree at the indexes from `from` up to, but not including, `to`.
abbrev pub Alike : List ℕ → List ℕ → ℕ → ℕ → Type 0
Alike old others from to = (i : ℕ) → from ≤ i → i < to → slice_get old i ≡ slice_get others i

abbrev pub DifferAt : List ℕ → List ℕ → ℕ → Type 0
DifferAt old others i = slice_get old i ≢ slice_get others i

-- `at` is the first index from `done` on at which the lists differ.
pub record IsFirst (old others : List ℕ) (done at : ℕ) : Type 0 where
  pub from : done ≤ at
  pub within : at < length old
  pub before : Alike old others done at
  pub differs : DifferAt old others at

-- `end` is the end, exclusive, of a span of changed bytes that begins at `from`. Its last byte
-- differs, and the next 16 bytes, or all up to the end of the list, agree. No 16 consecutive bytes
-- inside the span agree.
pub record IsSpanEnd (old others : List ℕ) (from end : ℕ) : Type 0 where
  pub some : from < end
  pub within : end ≤ length old
  pub last : DifferAt old others (end - 1)
  pub rest_alike : Alike old others end (end + 16)
  pub inner : (i : ℕ) → from ≤ i → i + 16 ≤ end → ¬ Alike old others i (i + 16)

-- Each place has the note that it had before, or the one that it would have if all bytes `bs` of
-- the region from index s on had been recorded.
abbrev pub NotedAmong : List Change → List Change → Region → ℕ → List ℕ → Type 0
NotedAmong before after g s bs =
    (q : Place)
    → (named after q ≡ named before q)
    ⊎ (named after q ≡ first_note (named before q) (byte_in g s bs q))

-- Each byte of the region, from index s on, that differs from the new byte for its place has a
-- note.
abbrev pub NamesDiffering : List Change → Region → ℕ → List ℕ → List ℕ → Type 0
NamesDiffering notes g s old others =
    (i : ℕ) → named notes (place_in g (s + i)) ≡ None → slice_get old i ≡ slice_get others i

-- No byte in a sequence of 16 unchanged bytes has a note.
abbrev pub Spares : List Change → Region → ℕ → List ℕ → List ℕ → Type 0
Spares notes g s old others =
    (i k : ℕ) → Alike old others i (i + 16) → i ≤ k → k < i + 16 → k < length old
    → named notes (place_in g (s + k)) ≡ None
