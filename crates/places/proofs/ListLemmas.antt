-- Lemmas about the elements of changed lists.
use Rattle.std.proofs.Common.{◌≡◌, ℕ, zero, suc, Bool, true, false, cond, refl, sym, ◌∙◌, ap, List, [], ◌∷◌, ◌++◌, length, take, ◌+◌, ◌<◌, ◌≤◌, arith}
use Rattle.std.specs.Prelude.{Some, None, option_map, map, slice_get, slice_set, ◌==◌}
use Rattle.std.proofs.lemmas.Bool.{eqb-true, eq-eqb}
use Rattle.std.proofs.lemmas.Option.{slice_get_within}
use Rattle.places.specs.Lists.{updated}
use Rattle.std.proofs.lemmas.Grind.{common_steps}
use Rattle.std.proofs.lemmas.Option.{gets}

pub slice_get-set : {X : Type 0} (xs : List X) (i j : ℕ) (c : X) → i < length xs → slice_get (slice_set xs i c) j ≡ cond (i == j) (Some c) (slice_get xs j)
slice_get-set xs i j c h = grind (arith, common_steps, gets)

-- The elements of a list with one appended.
pub slice_get-push : {X : Type 0} (xs : List X) (j : ℕ) (c : X) → slice_get (xs ++ c ∷ []) j ≡ cond (length xs == j) (Some c) (slice_get xs j)
slice_get-push xs j c = grind (arith, common_steps, gets)

-- Lists with the same element at each index are equal.
pub same_list : {X : Type 0} (xs ys : List X) → ((i : ℕ) → slice_get xs i ≡ slice_get ys i) → xs ≡ ys
same_list [] [] h = refl
same_list [] (y ∷ ys) h = let e = h 0 in cc
same_list (x ∷ xs) [] h = let e = h 0 in cc
same_list (x ∷ xs) (y ∷ ys) h = let e = h 0 in let f = same_list xs ys (λ i. h (suc i)) in cc

-- Updating element i is writing the updated value at index i.
pub updated_set : {X : Type 0} (f : X → X) (xs : List X) (i : ℕ) (x : X) → slice_get xs i ≡ Some x → updated f xs i ≡ slice_set xs i (f x)
updated_set f [] i x h = absurd cc
updated_set f (y ∷ ys) zero x h = let e : y ≡ x = cc in ap (λ z. f z ∷ ys) e
updated_set f (y ∷ ys) (suc i) x h = ap (λ zs. y ∷ zs) (updated_set f ys i x h)

pub slice_get_none : {X : Type 0} (xs : List X) (i : ℕ) → slice_get xs i ≡ None → length xs ≤ i
slice_get_none xs i h = grind (arith, common_steps, gets)

pub length-updated : {X : Type 0} (f : X → X) (xs : List X) (i : ℕ) → length (updated f xs i) ≡ length xs
length-updated f [] i = refl
length-updated f (y ∷ ys) zero = refl
length-updated f (y ∷ ys) (suc i) = ap suc (length-updated f ys i)

-- A field of each element, after element i is replaced.
pub field_set : {X V : Type 0} (f : X → V) (xs : List X) (i j : ℕ) (y : X) → i < length xs → option_map f (slice_get (slice_set xs i y) j) ≡ cond (i == j) (Some (f y)) (option_map f (slice_get xs j))
field_set f xs i j y h = ap (option_map f) (slice_get-set xs i j y h) ∙ chosen (i == j)
  where
    chosen : (b : Bool) → option_map f (cond b (Some y) (slice_get xs j)) ≡ cond b (Some (f y)) (option_map f (slice_get xs j))
    chosen true = refl
    chosen false = refl

-- It is the same for all elements if the new one has the field of the old one.
pub field_same : {X V : Type 0} (f : X → V) (xs : List X) (i j : ℕ) (x y : X) → slice_get xs i ≡ Some x → f y ≡ f x → option_map f (slice_get (slice_set xs i y) j) ≡ option_map f (slice_get xs j)
field_same f xs i j x y h e = field_set f xs i j y (slice_get_within xs i x h) ∙ by (i == j) refl
  where
    by : (b : Bool) → (i == j) ≡ b → cond b (Some (f y)) (option_map f (slice_get xs j)) ≡ option_map f (slice_get xs j)
    by true k = ap Some e ∙ sym (ap (option_map f) (sym (ap (slice_get xs) (eqb-true i j k)) ∙ h))
    by false k = refl

pub map_same : {X V : Type 0} (f : X → V) (xs : List X) (i : ℕ) (x y : X) → slice_get xs i ≡ Some x → f y ≡ f x → map f (slice_set xs i y) ≡ map f xs
map_same f [] i x y h e = refl
map_same f (z ∷ zs) zero x y h e = let k : z ≡ x = cc in ap (λ v. v ∷ map f zs) (e ∙ ap f (sym k))
map_same f (z ∷ zs) (suc i) x y h e = ap (λ vs. f z ∷ vs) (map_same f zs i x y h e)

pub slice_get-set_same : {X : Type 0} (xs : List X) (i : ℕ) (y : X) → i < length xs → slice_get (slice_set xs i y) i ≡ Some y
slice_get-set_same xs i y h = slice_get-set xs i i y h ∙ ap (λ b. cond b (Some y) (slice_get xs i)) (eq-eqb i i refl)

-- The elements of a list without its last one.
pub slice_get-take : {X : Type 0} (xs : List X) (i j : ℕ) → i + 1 ≡ length xs → slice_get (take i xs) j ≡ cond (i == j) None (slice_get xs j)
slice_get-take xs i j h = grind (arith, common_steps, gets)

pub slice_get-take_below : {X : Type 0} (xs : List X) (k i : ℕ) → i < k → slice_get (take k xs) i ≡ slice_get xs i
slice_get-take_below xs k i h = grind (arith, common_steps, gets)

pub slice_get-take_above : {X : Type 0} (xs : List X) (k i : ℕ) → k ≤ i → slice_get (take k xs) i ≡ None
slice_get-take_above xs k i h = grind (arith, common_steps, gets)
