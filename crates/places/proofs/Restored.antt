-- Restoring a list that had grown: it is truncated, and then its elements are overwritten.
use Rattle.std.proofs.Common.{◌≡◌, ℕ, Bool, true, false, cond, refl, sym, ◌∙◌, ap, subst, List, [], ◌∷◌, length, take, ◌<◌, ◌≤◌, ◌⊎◌, inl, inr, arith}
use Rattle.std.specs.Prelude.{Option, Some, None, option_map, slice_get, unwrap_or}
use Rattle.std.proofs.lemmas.Option.{slice_get_past}
use Rattle.std.proofs.lemmas.Bool.Decides.{leb_tells}
use Rattle.places.specs.declared.listed.Listed.{Listed}
use Rattle.places.specs.declared.listed.Listed.TheVariants.{Requests, Overflowed}
use Rattle.places.specs.declared.place.Place.{Place}
use Rattle.places.specs.declared.place.Place.TheVariants.{Request, Backlog}
use Rattle.places.specs.declared.value.Value.{Value}
use Rattle.places.specs.declared.value.Change.{Change}
use Rattle.places.specs.Places.{same_place}
use Rattle.places.specs.View.{named, NamesOnce}
use Rattle.places.specs.Notes.{number_in, element, IsLeft, cut_off, after_change, left}
use Rattle.places.proofs.SamePlace.{same_place_is, same_place_self}
use Rattle.places.proofs.ListLemmas.{slice_get_none, slice_get-take_below, slice_get-take_above}

order : (a b : ℕ) → (a ≤ b) ⊎ (b < a)
order a b = elim (leb_tells a b) [ inl k ↦ inl k.1 | inr k ↦ inr k.1 ]

-- A place that has number i in a list is the place of element i.
numbered : (l : Listed) (p : Place) (i : ℕ) → number_in l p ≡ Some i → p ≡ element l i
numbered Requests (Request j) i e = let k : j ≡ i = cc in ap Request k
numbered Requests _ i e = absurd cc
numbered Overflowed (Backlog j) i e = let k : j ≡ i = cc in ap Backlog k
numbered Overflowed _ i e = absurd cc

-- The place of element i has number i.
number_of_element : (l : Listed) (i : ℕ) → number_in l (element l i) ≡ Some i
number_of_element Requests i = refl
number_of_element Overflowed i = refl

after_cases : (l : Listed) (p : Place) (v : Option Value) (n : ℕ) → (after_change l p v n ≡ n) ⊎ ((i : ℕ) × (p ≡ element l i) × (v ≡ None) × (after_change l p v n ≡ i) × (i ≤ n))
after_cases l p v n = by (number_in l p) v refl
  where
    by : (m : Option ℕ) (w : Option Value) → number_in l p ≡ m → (cut_off m w n ≡ n) ⊎ ((i : ℕ) × (p ≡ element l i) × (w ≡ None) × (cut_off m w n ≡ i) × (i ≤ n))
    by (Some i) None e = elim (order n i) [ inl k ↦ inl (omega arith) | inr k ↦ inr (i, numbered l p i e, refl, omega arith, omega arith) ]
    by (Some i) (Some x) e = inl refl
    by None w e = inl refl

after_le : (l : Listed) (p : Place) (v : Option Value) (n : ℕ) → after_change l p v n ≤ n
after_le l p v n = elim (after_cases l p v n) [ inl k ↦ omega arith | inr k ↦ let a = k.3 in let b = k.4 in omega arith ]

-- No more elements remain than there were.
pub left_le : (l : Listed) (cs : List Change) (n : ℕ) → left l cs n ≤ n
left_le l [] n = omega arith
left_le l (c ∷ cs) n = let a = left_le l cs (after_change l c.place c.old n) in let b = after_le l c.place c.old n in omega arith

-- An element that is named as absent does not remain.
pub left_named : (l : Listed) (cs : List Change) (n i : ℕ) → named cs (element l i) ≡ Some None → left l cs n ≤ i
unfolding named
left_named l [] n i h = absurd cc
left_named l (c ∷ cs) n i h = by (same_place c.place (element l i)) refl h (left_named l cs (after_change l c.place c.old n) i)
  where
    gone : (m : Option ℕ) → m ≡ Some i → cut_off m None n ≤ i
    gone None e = absurd cc
    gone (Some j) e = let k : j ≡ i = cc in omega arith

    by : (b : Bool) → same_place c.place (element l i) ≡ b → cond b (Some c.old) (named cs (element l i)) ≡ Some None → (named cs (element l i) ≡ Some None → left l cs (after_change l c.place c.old n) ≤ i) → left l cs (after_change l c.place c.old n) ≤ i
    by true e k later =
        let p = same_place_is c.place (element l i) e in
        let v : c.old ≡ None = cc in
        let a = left_le l cs (after_change l c.place c.old n) in
        let b : after_change l c.place c.old n ≤ i = rw v (gone (number_in l c.place) (ap (number_in l) p ∙ number_of_element l i)) in
        omega arith
    by false e k later = later k

-- All elements remain, or the first that does not is named as absent.
pub left_is : (l : Listed) (cs : List Change) (n : ℕ) → NamesOnce cs → (left l cs n ≡ n) ⊎ ((i : ℕ) × (left l cs n ≡ i) × (named cs (element l i) ≡ Some None))
unfolding named
left_is l [] n o = inl refl
left_is l (c ∷ cs) n o = by (after_cases l c.place c.old n) (left_is l cs (after_change l c.place c.old n) o.1)
  where
    here : (i : ℕ) → c.place ≡ element l i → c.old ≡ None → cond (same_place c.place (element l i)) (Some c.old) (named cs (element l i)) ≡ Some None
    here i p v = rw (v, p, same_place_self (element l i)) refl

    later : (i : ℕ) → named cs (element l i) ≡ Some None → (b : Bool) → same_place c.place (element l i) ≡ b → cond b (Some c.old) (named cs (element l i)) ≡ Some None
    later i k true e = let q = o.0 in let z = ap (named cs) (same_place_is c.place (element l i) e) in absurd cc
    later i k false e = k

    by : (after_change l c.place c.old n ≡ n) ⊎ ((i : ℕ) × (c.place ≡ element l i) × (c.old ≡ None) × (after_change l c.place c.old n ≡ i) × (i ≤ n)) → (left l cs (after_change l c.place c.old n) ≡ after_change l c.place c.old n) ⊎ ((i : ℕ) × (left l cs (after_change l c.place c.old n) ≡ i) × (named cs (element l i) ≡ Some None))
        → (left l cs (after_change l c.place c.old n) ≡ n) ⊎ ((i : ℕ) × (left l cs (after_change l c.place c.old n) ≡ i) × (cond (same_place c.place (element l i)) (Some c.old) (named cs (element l i)) ≡ Some None))
    by a (inr k) = inr (k.0, k.1, later k.0 k.2 (same_place c.place (element l k.0)) refl)
    by (inl e) (inl k) = inl (k ∙ e)
    by (inr e) (inl k) = inr (e.0, k ∙ e.3, here e.0 e.1 e.2)

-- The number computed change by change satisfies `IsLeft`.
pub left_least : (l : Listed) (cs : List Change) (n : ℕ) → NamesOnce cs → IsLeft l cs n (left l cs n)
left_least l cs n o = record {
  most = left_le l cs n;
  least = λ i h. left_named l cs n i h;
  reached = elim (left_is l cs n o) [
    | inl e ↦ inl e
    | inr w ↦ inr (subst (λ (i : ℕ). named cs (element l i) ≡ Some None) (sym w.1) w.2)
  ];
}

-- ---- A list `ys` that had grown from `xs`, and changes that lead back to `xs`

module _ {X : Type 0} (f : X → Value) (l : Listed) (xs ys : List X) (cs : List Change) (left : ℕ) (h : IsLeft l cs (length ys) left) (grown : length xs ≤ length ys) (back : (i : ℕ) → unwrap_or (named cs (element l i)) (option_map f (slice_get ys i)) ≡ option_map f (slice_get xs i)) where
  absent : (zs : List X) (i : ℕ) → option_map f (slice_get zs i) ≡ None → length zs ≤ i
  absent zs i h = slice_get_none zs i (by (slice_get zs i) h)
    where
      by : (x : Option X) → option_map f x ≡ None → x ≡ None
      by None k = refl
      by (Some x) k = absurd cc

  -- As many elements remain as `xs` has.
  pub left_all : left ≡ length xs
  left_all = let a = up h.reached in let b = down (order (length ys) (length xs)) in omega arith
    where
      up : (left ≡ length ys) ⊎ (named cs (element l left) ≡ Some None) → length xs ≤ left
      up (inl k) = omega arith
      up (inr k) =
          let e : option_map f (slice_get xs left) ≡ None = sym (back left) ∙ ap (λ n. unwrap_or n (option_map f (slice_get ys left))) k in
          absent xs left e

      taken : (n : Option (Option Value)) (x : Value) → unwrap_or n (Some x) ≡ None → n ≡ Some None
      taken None x h = absurd cc
      taken (Some None) x h = refl
      taken (Some (Some y)) x h = absurd cc

      there : (x : Option X) → slice_get ys (length xs) ≡ x → length xs < length ys → (v : Value) × (option_map f (slice_get ys (length xs)) ≡ Some v)
      there None e m = let k = slice_get_none ys (length xs) e in absurd (omega arith)
      there (Some x) e m = (f x, ap (option_map f) e)

      down : (length ys ≤ length xs) ⊎ (length xs < length ys) → left ≤ length xs
      down (inl k) = let m = h.most in omega arith
      down (inr k) =
          let x = there (slice_get ys (length xs)) refl k in
          let n : named cs (element l (length xs)) ≡ Some None = taken (named cs (element l (length xs))) x.0 (ap (unwrap_or (named cs (element l (length xs)))) (sym x.1) ∙ back (length xs) ∙ ap (option_map f) (slice_get_past xs (length xs) (omega arith))) in
          h.least (length xs) n

  -- Undoing the changes on the truncated list gives `xs`.
  pub left_back : (i : ℕ) → unwrap_or (named cs (element l i)) (option_map f (slice_get (take left ys) i)) ≡ option_map f (slice_get xs i)
  left_back i = by (order left i)
    where
      still : (a : Option (Option Value)) (x : Option Value) → unwrap_or a x ≡ None → unwrap_or a None ≡ None
      still None x h = refl
      still (Some y) x h = h

      by : (left ≤ i) ⊎ (i < left) → unwrap_or (named cs (element l i)) (option_map f (slice_get (take left ys) i)) ≡ option_map f (slice_get xs i)
      by (inl k) =
          let gone : option_map f (slice_get xs i) ≡ None = ap (option_map f) (slice_get_past xs i (let a = left_all in omega arith)) in
          ap (λ x. unwrap_or (named cs (element l i)) (option_map f x)) (slice_get-take_above ys _ i k) ∙ still (named cs (element l i)) (option_map f (slice_get ys i)) (back i ∙ gone) ∙ sym gone
      by (inr k) = ap (λ x. unwrap_or (named cs (element l i)) (option_map f x)) (slice_get-take_below ys _ i k) ∙ back i
