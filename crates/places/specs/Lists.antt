-- Updating one element of a list.
use Rattle.std.specs.Prelude.{ℕ, zero, suc, List, [], ◌∷◌}

-- The list with `f` applied to element i, if there is one.
abbrev pub updated : {X : Type 0} → (X → X) → List X → ℕ → List X
updated f [] i = []
updated f (x ∷ xs) zero = f x ∷ xs
updated f (x ∷ xs) (suc i) = x ∷ updated f xs i
