-- `same_place` decides whether two places are equal.
use Rattle.std.proofs.Common.{◌≡◌, Bool, true, false, refl, sym, ◌∙◌, ap, eq-eqb}
use Rattle.std.proofs.lemmas.Bool.{eqb-true}
use Rattle.std.specs.Prelude.{◌&&◌}
use Rattle.places.specs.declared.place.Place.{Place}
use Rattle.places.specs.Places.{kind_of, index_of, second_of, same_place}
use Rattle.places.specs.PlaceNumbers.{same_numbers}

both_true : (a b : Bool) → (a && b) ≡ true → (a ≡ true) × (b ≡ true)
both_true true b h = (refl, h)
both_true false b h = cc

pub same_place_is : (p q : Place) → same_place p q ≡ true → p ≡ q
unfolding same_place
same_place_is p q h =
    let b = both_true _ _ h in
    let c = both_true _ _ b.1 in
    let k : kind_of p ≡ kind_of q = eqb-true _ _ b.0 in
    let i : index_of p ≡ index_of q = eqb-true _ _ c.0 in
    let j : second_of p ≡ second_of q = eqb-true _ _ c.1 in
    same_numbers p q k i j

pub same_place_self : (p : Place) → same_place p p ≡ true
unfolding same_place
same_place_self p = rw (eq-eqb _ _ (refl {a = kind_of p}), eq-eqb _ _ (refl {a = index_of p}), eq-eqb _ _ (refl {a = second_of p})) refl

pub same_place-sym : (p q : Place) → same_place p q ≡ same_place q p
same_place-sym p q = by (same_place p q) (same_place q p) refl refl
  where
    by : (a b : Bool) → same_place p q ≡ a → same_place q p ≡ b → a ≡ b
    by true b h k = sym (ap (λ r. same_place r p) (sym (same_place_is p q h)) ∙ same_place_self p) ∙ k
    by false true h k = sym h ∙ ap (same_place p) (same_place_is q p k) ∙ same_place_self p
    by false false h k = refl
