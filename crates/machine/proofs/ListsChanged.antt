-- Lists in which one item changed.
use Rattle.machine.proofs.Common.{◌≡◌, ℕ, zero, suc, refl, sym, ap, List, [], ◌∷◌, map, ◌⊎◌, inl, inr, Some, slice_get, updated}

-- An item of the changed list.
pub updated_get : {X : Type 0} (f : X → X) (xs : List X) (i j : ℕ) (y : X) → slice_get (updated f xs i) j ≡ Some y → (slice_get xs j ≡ Some y) ⊎ ((x : X) × (i ≡ j) × (slice_get xs j ≡ Some x) × (y ≡ f x))
updated_get f [] i j y h = absurd cc
updated_get f (x ∷ xs) zero zero y h = inr (x, refl, refl, cc)
updated_get f (x ∷ xs) zero (suc j) y h = inl h
updated_get f (x ∷ xs) (suc i) zero y h = inl h
updated_get f (x ∷ xs) (suc i) (suc j) y h = elim (updated_get f xs i j y h) [ inl k ↦ inl k | inr k ↦ inr (k.0, ap suc k.1, k.2, k.3) ]

-- A field that doesn't change.
pub map_updated : {X V : Type 0} (g : X → V) (f : X → X) (xs : List X) (i : ℕ) → ((x : X) → g (f x) ≡ g x) → map g xs ≡ map g (updated f xs i)
map_updated g f [] i h = refl
map_updated g f (x ∷ xs) zero h = ap (λ v. v ∷ map g xs) (sym (h x))
map_updated g f (x ∷ xs) (suc i) h = ap (λ vs. g x ∷ vs) (map_updated g f xs i h)
