-- Undoing changes in two parts.
use Rattle.std.proofs.Common.{◌≡◌, Bool, true, false, cond, refl, sym, ◌∙◌, ap, List, [], ◌∷◌, ◌++◌}
use Rattle.std.specs.Prelude.{Option, Some, None, is_some, unwrap_or, ◌||◌}
use Rattle.places.specs.declared.place.Place.{Place}
use Rattle.places.specs.declared.value.Value.{Value}
use Rattle.places.specs.declared.value.Change.{Change}
use Rattle.places.specs.Places.{same_place}
use Rattle.places.specs.View.{View, named, undo, first_note, NamesOnce}
use Rattle.places.proofs.SamePlace.{same_place_is}
use Rattle.places.proofs.Naming.{named-append}
use Rattle.places.proofs.Joining.{none_parts, none_some}

-- If no place is named twice, the two parts share no place.
pub once_apart : (cs ds : List Change) → NamesOnce (cs ++ ds) → (p : Place) → is_some (named ds p) ≡ true → named cs p ≡ None
unfolding named
once_apart [] ds o p h = refl
once_apart (c ∷ cs) ds o p h = by (same_place c.place p) refl (once_apart cs ds o.1 p h)
  where
    by : (t : Bool) → same_place c.place p ≡ t → named cs p ≡ None → cond t (Some c.old) (named cs p) ≡ None
    by true e k = absurd (none_some (named ds p) (ap (named ds) (sym (same_place_is c.place p e)) ∙ (none_parts cs ds c.place o.0).1) h)
    by false e k = k

pub once_front : (cs ds : List Change) → NamesOnce (cs ++ ds) → NamesOnce cs
once_front [] ds o = tt
once_front (c ∷ cs) ds o = ((none_parts cs ds c.place o.0).0, once_front cs ds o.1)

pub once_back : (cs ds : List Change) → NamesOnce (cs ++ ds) → NamesOnce ds
once_back [] ds o = o
once_back (c ∷ cs) ds o = once_back cs ds o.1

-- What the first part names, the whole names with the same old value.
pub named_front : (cs ds : List Change) (p : Place) (x : Option Value) → named cs p ≡ Some x → named (cs ++ ds) p ≡ Some x
named_front cs ds p x h = named-append cs ds p ∙ ap (λ n. first_note n (named ds p)) h

-- If no place is named twice, this holds for the second part as well.
pub named_back : (cs ds : List Change) (p : Place) (x : Option Value) → NamesOnce (cs ++ ds) → named ds p ≡ Some x → named (cs ++ ds) p ≡ Some x
named_back cs ds p x o h = named-append cs ds p ∙ ap (λ n. first_note n (named ds p)) (once_apart cs ds o p (ap is_some h)) ∙ h

-- If no place is named twice, undoing the whole is undoing one part and then the other.
pub undo-append : (v : View) (cs ds : List Change) → NamesOnce (cs ++ ds) → (p : Place) → undo v (cs ++ ds) p ≡ undo (undo v cs) ds p
undo-append v cs ds o p = ap (λ n. unwrap_or n (v p)) (named-append cs ds p) ∙ by (named cs p) (named ds p) refl refl
  where
    by : (m n : Option (Option Value)) → named cs p ≡ m → named ds p ≡ n → unwrap_or (first_note m n) (v p) ≡ unwrap_or n (unwrap_or m (v p))
    by None n e f = refl
    by (Some x) None e f = refl
    by (Some x) (Some y) e f = absurd (none_some (named cs p) (once_apart cs ds o p (ap is_some f)) (ap is_some e))

-- ---- Which places are named, part by part

pub named_either : (cs ds : List Change) (p : Place) → is_some (named (cs ++ ds) p) ≡ (is_some (named cs p) || is_some (named ds p))
named_either cs ds p = ap is_some (named-append cs ds p) ∙ by (named cs p) (named ds p)
  where
    by : (m n : Option (Option Value)) → is_some (first_note m n) ≡ (is_some m || is_some n)
    by None n = refl
    by (Some x) n = refl

pub names_front : (cs xs ys : List Change) (p : Place) → cs ≡ xs ++ ys → is_some (named xs p) ≡ true → is_some (named cs p) ≡ true
names_front cs xs ys p e h = ap (λ ds. is_some (named ds p)) e ∙ named_either xs ys p ∙ ap (λ t. t || is_some (named ys p)) h

pub names_back : (cs xs ys : List Change) (p : Place) → cs ≡ xs ++ ys → is_some (named xs p) ≡ false → is_some (named ys p) ≡ is_some (named cs p)
names_back cs xs ys p e h = sym (ap (λ ds. is_some (named ds p)) e ∙ named_either xs ys p ∙ ap (λ t. t || is_some (named ys p)) h)

pub names_nothing : (cs : List Change) (p : Place) → cs ≡ [] → false ≡ is_some (named cs p)
unfolding named
names_nothing cs p e = ap (λ ds. is_some (named ds p)) (sym e)
