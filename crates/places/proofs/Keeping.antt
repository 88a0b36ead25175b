-- Lemmas for `Keeps`: recording a place and then writing it, and doing this repeatedly.
use Rattle.std.proofs.Common.{◌≡◌, Bool, true, false, cond, refl, sym, ◌∙◌, ap, List}
use Rattle.std.specs.Prelude.{Option, Some, None, unwrap_or}
use Rattle.places.specs.declared.place.Place.{Place}
use Rattle.places.specs.declared.value.Value.{Value}
use Rattle.places.specs.declared.value.Change.{Change}
use Rattle.places.specs.Places.{same_place}
use Rattle.places.specs.View.{View, named, undo, put_at, Keeps, Noted, first_note}
use Rattle.places.proofs.SamePlace.{same_place_is}

pub keeps_same : (owns : Place → Bool) (v : View) (cs : List Change) → Keeps owns v v cs cs
keeps_same owns v cs = record { back = λ p _. refl; others = λ p _. refl }

pub keeps_then : (owns : Place → Bool) (u v w : View) (cs ds es : List Change) → Keeps owns u v cs ds → Keeps owns v w ds es → Keeps owns u w cs es
keeps_then owns u v w cs ds es h k = record { back = λ p o. k.back p o ∙ h.back p o; others = λ p o. k.others p o ∙ h.others p o }

-- Undoing gives the same before and after a place is recorded and then written.
pub undo_noted : (v w : View) (cs ds : List Change) (p : Place) (x : Option Value) → Noted cs ds p (v p) → (q : Place) → w q ≡ put_at v p x q → undo w ds q ≡ undo v cs q
undo_noted v w cs ds p x h q e =
    ap (λ n. unwrap_or n (w q)) (h q) ∙ ap (unwrap_or (first_note (named cs q) (cond (same_place p q) (Some (v p)) None))) e ∙ by_note (named cs q)
  where
    noted : (b : Bool) → same_place p q ≡ b → unwrap_or (cond b (Some (v p)) None) (cond b x (v q)) ≡ v q
    noted true k = ap v (same_place_is p q k)
    noted false k = refl

    by_note : (n : Option (Option Value)) → unwrap_or (first_note n (cond (same_place p q) (Some (v p)) None)) (cond (same_place p q) x (v q)) ≡ unwrap_or n (v q)
    by_note None = noted (same_place p q) refl
    by_note (Some y) = refl

-- Recording a place of a part and then writing it satisfies `Keeps`.
pub keeps_noted : (owns : Place → Bool) (v w : View) (cs ds : List Change) (p : Place) (x : Option Value) → owns p ≡ true → Noted cs ds p (v p) → ((q : Place) → w q ≡ put_at v p x q) → Keeps owns v w cs ds
keeps_noted owns v w cs ds p x o n h = record {
  back = λ q _. undo_noted v w cs ds p x n q (h q);
  others = λ q o'. n q ∙ by_note (named cs q) q o';
}
  where
    other : (b : Bool) (q : Place) → same_place p q ≡ b → owns q ≡ false → cond b (Some (v p)) None ≡ None
    other true q h' o'' = let e = ap owns (same_place_is p q h') in cc
    other false q h' o'' = refl

    by_note : (m : Option (Option Value)) (q : Place) → owns q ≡ false → first_note m (cond (same_place p q) (Some (v p)) None) ≡ m
    by_note None q o' = other (same_place p q) q refl o'
    by_note (Some y) q o' = refl

-- So does recording a place without writing it.
pub keeps_unchanged : (owns : Place → Bool) (v : View) (cs ds : List Change) (p : Place) → owns p ≡ true → Noted cs ds p (v p) → Keeps owns v v cs ds
keeps_unchanged owns v cs ds p o n = keeps_noted owns v v cs ds p (v p) o n same
  where
    at : (q : Place) (b : Bool) → same_place p q ≡ b → v q ≡ cond b (v p) (v q)
    at q true e = ap v (sym (same_place_is p q e))
    at q false e = refl

    same : (q : Place) → v q ≡ put_at v p (v p) q
    same q = at q (same_place p q) refl

-- Adding a note removes none.
pub noted_keeps : (cs ds : List Change) (p : Place) (x : Option Value) → Noted cs ds p x → (q : Place) → named ds q ≡ None → named cs q ≡ None
noted_keeps cs ds p x n q h = by (named cs q) (sym (n q) ∙ h)
  where
    by : (m : Option (Option Value)) → first_note m (cond (same_place p q) (Some x) None) ≡ None → m ≡ None
    by None k = refl
    by (Some y) k = absurd cc
