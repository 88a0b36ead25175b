-- Which places a list of notes names.
use Rattle.std.proofs.Common.{◌≡◌, Bool, true, false, cond, refl, ◌∙◌, ap, List, [], ◌∷◌, ◌++◌}
use Rattle.std.specs.Prelude.{Option, Some, None, is_some, map, ◌||◌}
use Rattle.std.specs.List.{list_any}
use Rattle.places.specs.declared.place.Place.{Place}
use Rattle.places.specs.declared.value.Value.{Value}
use Rattle.places.specs.declared.value.Change.{Change}
use Rattle.places.specs.Places.{same_place}
use Rattle.places.specs.View.{named, first_note, NamesOnce, Noted}
use Rattle.places.proofs.SamePlace.{same_place-sym}

pub named-append : (cs ds : List Change) (p : Place) → named (cs ++ ds) p ≡ first_note (named cs p) (named ds p)
unfolding named
named-append [] ds p = refl
named-append (c ∷ cs) ds p = elim (same_place c.place p) as (λ b. cond b (Some c.old) (named (cs ++ ds) p) ≡ first_note (cond b (Some c.old) (named cs p)) (named ds p)) [ true ↦ refl | false ↦ named-append cs ds p ]

pub named-one : (c : Change) (p : Place) → named (c ∷ []) p ≡ cond (same_place c.place p) (Some c.old) None
unfolding named
named-one c p = refl

-- One more note at the end.
pub named-more : (cs : List Change) (c : Change) (p : Place) → named (cs ++ c ∷ []) p ≡ first_note (named cs p) (cond (same_place c.place p) (Some c.old) None)
named-more cs c p = named-append cs (c ∷ []) p ∙ ap (first_note (named cs p)) (named-one c p)

some_is_none : {X : Type 0} (x : X) → Some x ≡ None → ⊥
some_is_none x h = cc

-- Appending the note of a new place leaves at most one note for each place.
pub once_more : (cs : List Change) (c : Change) → NamesOnce cs → named cs c.place ≡ None → NamesOnce (cs ++ c ∷ [])
unfolding named
once_more [] c h n = (refl, tt)
once_more (d ∷ cs) c h n =
    let apart = unnamed (same_place d.place c.place) refl n in
    (named-more cs c d.place ∙ ap (λ a. first_note a (cond (same_place c.place d.place) (Some c.old) None)) h.0 ∙ ap (λ b. cond b (Some c.old) None) apart.0, once_more cs c h.1 apart.1)
  where
    unnamed : (b : Bool) → same_place d.place c.place ≡ b → cond b (Some d.old) (named cs c.place) ≡ None → (same_place c.place d.place ≡ false) × (named cs c.place ≡ None)
    unnamed true e k = absurd (some_is_none d.old k)
    unnamed false e k = (same_place-sym c.place d.place ∙ e, k)

-- A place is named exactly if it is the place of one of the notes.
pub list_any-named : (cs : List Change) (p : Place) → list_any (λ c. same_place c.place p) cs ≡ is_some (named cs p)
unfolding named
list_any-named [] p = refl
list_any-named (c ∷ cs) p = elim (same_place c.place p) as (λ b. (b || list_any (λ (d : Change). same_place d.place p) cs) ≡ is_some (cond b (Some c.old) (named cs p))) [ true ↦ refl | false ↦ list_any-named cs p ]

pub list_any-named_by : {X : Type 0} (change : X → Change) (xs : List X) (p : Place) → list_any (λ n. same_place (change n).place p) xs ≡ is_some (named (map change xs) p)
unfolding named
list_any-named_by change [] p = refl
list_any-named_by change (x ∷ xs) p = elim (same_place (change x).place p) as (λ b. (b || list_any (λ n. same_place (change n).place p) xs) ≡ is_some (cond b (Some (change x).old) (named (map change xs) p))) [ true ↦ refl | false ↦ list_any-named_by change xs p ]

pub noted_at_end : (cs : List Change) (p : Place) (x : Option Value) → Noted cs (cs ++ record { place = p; old = x } ∷ []) p x
noted_at_end cs p x q = named-more cs (record { place = p; old = x }) q
