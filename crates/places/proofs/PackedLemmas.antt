-- Appending notes to packed bytes, one after the other.
use Rattle.std.proofs.Common.{◌≡◌, ℕ, ◌+◌, ◌<◌, refl, sym, ◌∙◌, ap, subst, List, [], ◌∷◌, ◌++◌, length, take, get_or}
use Rattle.std.specs.Prelude.{map}
use Rattle.std.proofs.lemmas.List.{take_more}
use Rattle.places.specs.declared.value.Change.{Change}
use Rattle.compact_size.specs.Reading.{Puts}
use Rattle.compact_size.proofs.ReadingLemmas.{puts_more}

map_push : {X : Type 0} (change : X → Change) (ys : List X) (z : X) → map change (ys ++ z ∷ []) ≡ map change ys ++ change z ∷ []
map_push change [] z = refl
map_push change (w ∷ ys) z = ap (λ zs. change w ∷ zs) (map_push change ys z)

-- Appending note i after the first i notes appends the first i + 1.
pub puts_note : {X : Type 0} (change : X → Change) (read : List ℕ → Change) (left : List ℕ → List ℕ) (a b c : List ℕ) (xs : List X) (i : ℕ) (d : X) (y : Change) → i < length xs → y ≡ change (get_or xs i d) → Puts read left a (map change (take i xs)) b → Puts read left b (y ∷ []) c → Puts read left a (map change (take (i + 1) xs)) c
puts_note change read left a b c xs i d y h e f g =
    let m : map change (take i xs) ++ y ∷ [] ≡ map change (take (i + 1) xs) = ap (λ z. map change (take i xs) ++ z ∷ []) e ∙ sym (map_push change (take i xs) (get_or xs i d)) ∙ ap (map change) (sym (take_more xs i d h)) in
    subst (λ ys. Puts read left a ys c) m (puts_more read left a b c (map change (take i xs)) (y ∷ []) f g)
