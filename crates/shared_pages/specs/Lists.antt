-- Lists in pages of one size.
use Rattle.std.specs.Prelude.{◌≡◌, ℕ, ◌*◌, ◌<◌, ◌≤◌, Some, List, [], ◌∷◌, ◌++◌, length, slice_get, take}

-- The elements of all pages.
abbrev pub joined : {T : Type 0} → List (List T) → List T
joined [] = []
joined (page ∷ pages) = page ++ joined pages

-- The first elements of the pages.
unfoldable pub elements : {T : Type 0} → ℕ → List (List T) → List T
elements len pages = take len (joined pages)

-- Each page has n elements, and the pages have at least `len` together.
pub record IsPaged {T : Type 0} (n len : ℕ) (pages : List (List T)) : Type 0 where
  pub positive : 0 < n
  pub full : (k : ℕ) (page : List T) → slice_get pages k ≡ Some page → length page ≡ n
  pub within : len ≤ n * length pages

-- Pages were added that have the size of the others, which changes no element.
abbrev pub Extends : {T : Type 0} → List (List T) → List (List T) → List (List T) → Type 0
Extends {T} others old new =
    (n len m : ℕ) → IsPaged n len old → IsPaged n m others
    → IsPaged n len new × (elements len new ≡ elements len old)
