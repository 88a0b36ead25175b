-- Goals that clash: they have one place and two values.
use Rattle.std.proofs.Common.{◌≡◌, ℕ, ◌<◌, Bool, true, false, List, length, refl, sym, ap, ◌∙◌}
use Rattle.std.specs.Prelude.{not, ◌↔◌, IsTrue}
use Rattle.std.specs.Bool.{MatchBool}
use Rattle.std.specs.List.{All, AllWithin, Contains, HoldsAt}
use Rattle.std.proofs.Math.ListN.{get_or}
use Rattle.std.proofs.lemmas.List.Elements.{All-from_all_within, Contains-get_or}
use Rattle.places.specs.Places.{same_place}
use Rattle.places.proofs.SamePlace.{same_place_is, same_place_self}
use Rattle.symptoms.specs.declared.symptom.Goal.{Goal}
use Rattle.conclusions.specs.Conclusions.{Agree, Clash}

-- Goals of one place clash if they haven't one value.
pub one_place : (g h : Goal) (b : Bool) → same_place g.place h.place ≡ true → IsTrue b ↔ (g.value ≡ h.value) → MatchBool (not b) (Clash g h) (Agree g h)
one_place g h true e v = λ p. v.0 refl
one_place g h false e v = (same_place_is g.place h.place e, λ q. let no = v.1 q in cc)

-- Goals of two places agree.
pub two_places : (g h : Goal) (a : Bool) → a ≡ same_place g.place h.place → a ≡ false → MatchBool a (Clash g h) (Agree g h)
two_places g h true e k = cc
two_places g h false e k = λ p.
    let same : false ≡ true = e ∙ ap (same_place g.place) (sym p) ∙ same_place_self g.place in
    cc

-- Whether one of some goals clashes, from a test of each.
pub clashes_cases : (gs : List Goal) (g : Goal) (b : Bool) → MatchBool b ((k : ℕ) × (k < length gs) × HoldsAt (λ h. Clash h g) gs k) (AllWithin (λ h. Agree h g) gs 0 (length gs)) → MatchBool b ((h : Goal) × Contains gs h × Clash h g) (All (λ h. Agree h g) gs)
clashes_cases gs g true h = (get_or gs h.0 g, Contains-get_or gs h.0 g h.1, h.2 g)
clashes_cases gs g false h = All-from_all_within (λ h. Agree h g) gs h
