-- The contents of a page.
use Rattle.std.specs.Prelude.{◌≡◌, List, length, Bool, true, false, Option, Some, None}

-- The contents: the shared copy if the page is lent, else its own elements.
abbrev pub shown : {T : Type 0} → Bool → Option (List T) → List T → List T
shown true (Some others) own = others
shown true None own = own
shown false others own = own

-- The invariant of a page: a lent copy has the length of its storage, and any other shared copy is
-- equal to its elements.
abbrev pub IsWhole : {T : Type 0} → Bool → Option (List T) → List T → Type 0
IsWhole true (Some others) own = length own ≡ length others
IsWhole true None own = ⊥
IsWhole false (Some others) own = others ≡ own
IsWhole false None own = Unit {0}
