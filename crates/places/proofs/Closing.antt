-- Closing a recorder: dropping the notes of places that have their old
-- value leaves an exact record.
use Rattle.std.proofs.Common.{◌≡◌, ◌≢◌, Bool, true, false, cond, refl, sym, ◌∙◌, ap, subst, List, ◌∷◌, ◌⊎◌, inl, inr}
use Rattle.std.specs.Prelude.{Option, Some, None, unwrap_or}
use Rattle.places.specs.declared.place.Place.{Place}
use Rattle.places.specs.declared.value.Value.{Value}
use Rattle.places.specs.declared.value.Change.{Change}
use Rattle.places.specs.Places.{same_place}
use Rattle.places.specs.View.{View, named, undo, LeadsBack, Exact, NamesOnce}
use Rattle.places.proofs.SamePlace.{same_place_is}

-- What remains of the note of a place whose value is x now: nothing if that is its old value.
abbrev pub RestAt : Option Value → Option (Option Value) → Option (Option Value) → Type 0
RestAt x None m = m ≡ None
RestAt x (Some y) m = ((m ≡ Some y) × (y ≢ x)) ⊎ ((m ≡ None) × (y ≡ x))

abbrev pub Leaves : View → List Change → List Change → Type 0
Leaves v cs ds = (p : Place) → RestAt (v p) (named cs p) (named ds p)

-- A note that remains, in front of others.
pub stays : (v : View) (c : Change) (cs ds : List Change) → c.old ≢ v c.place → Leaves v cs ds → NamesOnce ds → named cs c.place ≡ None → Leaves v (c ∷ cs) (c ∷ ds) × NamesOnce (c ∷ ds)
unfolding named
stays v c cs ds m r o n = (λ p. at p (same_place c.place p) refl, (none c.place n, o))
  where
    none : (p : Place) → named cs p ≡ None → named ds p ≡ None
    none p e = let P : Option (Option Value) → Type 0 = λ a. RestAt (v p) a (named ds p) in subst P e (r p)

    at : (p : Place) (b : Bool) → same_place c.place p ≡ b → RestAt (v p) (cond b (Some c.old) (named cs p)) (cond b (Some c.old) (named ds p))
    at p true e = inl (refl, λ k. m (k ∙ ap v (sym (same_place_is c.place p e))))
    at p false e = r p

-- A note that is dropped, in front of others.
pub goes : (v : View) (c : Change) (cs ds : List Change) → c.old ≡ v c.place → Leaves v cs ds → named cs c.place ≡ None → Leaves v (c ∷ cs) ds
unfolding named
goes v c cs ds m r n p = at (same_place c.place p) refl
  where
    none : named cs p ≡ None → named ds p ≡ None
    none e = let P : Option (Option Value) → Type 0 = λ a. RestAt (v p) a (named ds p) in subst P e (r p)

    at : (b : Bool) → same_place c.place p ≡ b → RestAt (v p) (cond b (Some c.old) (named cs p)) (named ds p)
    at true e = let i = same_place_is c.place p e in inr (none (ap (named cs) (sym i) ∙ n), m ∙ ap v i)
    at false e = r p

pub exact_rest : (old v : View) (cs ds : List Change) → LeadsBack old v cs → ((p : Place) → RestAt (v p) (named cs p) (named ds p)) → Exact old v ds
exact_rest old v cs ds b r = record { differs = λ p x e. named_differs p x (named cs p) (r p) (b p) e; same = λ p e. unnamed_same p (named cs p) (r p) (b p) e }
  where
    named_differs : (p : Place) (x : Option Value) (n : Option (Option Value)) → RestAt (v p) n (named ds p) → unwrap_or n (v p) ≡ old p → named ds p ≡ Some x → (x ≡ old p) × (old p ≢ v p)
    named_differs p x None r b e = absurd cc
    named_differs p x (Some y) (inl k) b e = let i : x ≡ y = cc in (i ∙ b, λ d. k.1 (b ∙ d))
    named_differs p x (Some y) (inr k) b e = absurd cc

    unnamed_same : (p : Place) (n : Option (Option Value)) → RestAt (v p) n (named ds p) → unwrap_or n (v p) ≡ old p → named ds p ≡ None → old p ≡ v p
    unnamed_same p None r b e = sym b
    unnamed_same p (Some y) (inl k) b e = absurd cc
    unnamed_same p (Some y) (inr k) b e = sym b ∙ k.1

-- If undoing the notes leads back to `old`, the record that closing leaves is exact for `old`.
pub exact_led : (old v : View) (cs ds : List Change) → LeadsBack old v cs → Exact (undo v cs) v ds → Exact old v ds
exact_led old v cs ds b h = record {
  differs = λ p x e. let d = h.differs p x e in (d.0 ∙ b p, λ k. d.1 (b p ∙ k));
  same = λ p e. sym (b p) ∙ h.same p e;
}
