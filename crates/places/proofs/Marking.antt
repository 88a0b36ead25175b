-- Lemmas about marks, which say at which index the note of a slot is.
use Rattle.std.proofs.Common.{◌≡◌, ◌≢◌, ℕ, zero, suc, ◌<◌, Bool, true, false, cond, refl, sym, ◌∙◌, ap, subst, List, [], ◌∷◌, ◌++◌, length}
use Rattle.std.specs.Prelude.{Option, Some, None, map, slice_get, slice_set, ◌==◌, is_some}
use Rattle.std.proofs.lemmas.Bool.{eqb-true, eq-eqb}
use Rattle.std.proofs.lemmas.Option.{slice_get_within}
use Rattle.places.specs.declared.place.Place.{Place}
use Rattle.places.specs.declared.value.Value.{Value}
use Rattle.places.specs.declared.value.Change.{Change}
use Rattle.places.specs.Places.{same_place}
use Rattle.places.specs.View.{named, Noted, NamesOnce, first_note}
use Rattle.places.specs.Marks.{Marked, IsMarked, SlotsOnce}
use Rattle.places.proofs.SamePlace.{same_place_is, same_place_self}
use Rattle.places.proofs.Naming.{once_more, noted_at_end}
use Rattle.places.proofs.ListLemmas.{slice_get-set, slice_get-push}

-- Appending a note and setting the mark of its slot, which had no note.
marked_more : {X : Type 0} (slot : X → ℕ) (xs : List X) (ms : List ℕ) (x : X) → Marked slot xs ms → slot x < length ms → ¬ (IsMarked slot xs ms (slot x)) → Marked slot (xs ++ x ∷ []) (slice_set ms (slot x) (length xs))
marked_more slot xs ms x m h free k y e = by (length xs == k) refl
  where
    got : (b : Bool) → (length xs == k) ≡ b → cond b (Some x) (slice_get xs k) ≡ Some y
    got b i = ap (λ c. cond c (Some x) (slice_get xs k)) (sym i) ∙ sym (slice_get-push xs k x) ∙ e

    old : (b : Bool) → (slot x == slot y) ≡ b → slice_get xs k ≡ Some y → cond b (Some (length xs)) (slice_get ms (slot y)) ≡ Some k
    old true i g = absurd (free (record { at = k; note = y; mark = ap (slice_get ms) (eqb-true _ _ i) ∙ m k y g; there = g; its = sym (eqb-true _ _ i) }))
    old false i g = m k y g

    by : (b : Bool) → (length xs == k) ≡ b → slice_get (slice_set ms (slot x) (length xs)) (slot y) ≡ Some k
    by true i =
        let one : x ≡ y = let g = got true i in cc in
        slice_get-set ms (slot x) (slot y) (length xs) h ∙ ap (λ b. cond b (Some (length xs)) (slice_get ms (slot y))) (eq-eqb _ _ (ap slot one)) ∙ ap Some (eqb-true _ _ i)
    by false i = slice_get-set ms (slot x) (slot y) (length xs) h ∙ old (slot x == slot y) refl (got false i)

-- Extending the marks.
marked_reached : {X : Type 0} (slot : X → ℕ) (xs : List X) (ms ns : List ℕ) → Marked slot xs ms → ((i : ℕ) → i < length ms → slice_get ns i ≡ slice_get ms i) → Marked slot xs ns
marked_reached slot xs ms ns m h k x e = h (slot x) (slice_get_within ms (slot x) k (m k x e)) ∙ m k x e

unmarked_reached : {X : Type 0} (slot : X → ℕ) (xs : List X) (ms ns : List ℕ) (i : ℕ) → Marked slot xs ms → ((i : ℕ) → i < length ms → slice_get ns i ≡ slice_get ms i) → ¬ (IsMarked slot xs ms i) → ¬ (IsMarked slot xs ns i)
unmarked_reached slot xs ms ns i m h free k = free (record { at = k.at; note = k.note; mark = ap (slice_get ms) (sym k.its) ∙ m k.at k.note k.there; there = k.there; its = k.its })

module _ {X : Type 0} (change : X → Change) where
  -- The place of a note in the list has a note.
  named_there : (xs : List X) (k : ℕ) (x : X) → slice_get xs k ≡ Some x → is_some (named (map change xs) (change x).place) ≡ true
  unfolding named
  named_there [] k x e = absurd cc
  named_there (y ∷ ys) zero x e = let i : y ≡ x = cc in rw (i, same_place_self (change x).place) refl
  named_there (y ∷ ys) (suc k) x e = by (same_place (change y).place (change x).place) (named_there ys k x e)
    where
      by : (b : Bool) → is_some (named (map change ys) (change x).place) ≡ true → is_some (cond b (Some (change y).old) (named (map change ys) (change x).place)) ≡ true
      by true h = refl
      by false h = h

  named_unseen : (xs : List X) (p : Place) → ((k : ℕ) (x : X) → slice_get xs k ≡ Some x → (change x).place ≢ p) → named (map change xs) p ≡ None
  unfolding named
  named_unseen [] p h = refl
  named_unseen (y ∷ ys) p h = by (same_place (change y).place p) refl (named_unseen ys p (λ k x g. h (suc k) x g))
    where
      by : (b : Bool) → same_place (change y).place p ≡ b → named (map change ys) p ≡ None → cond b (Some (change y).old) (named (map change ys) p) ≡ None
      by true e n = absurd (h 0 y refl (same_place_is _ _ e))
      by false e n = n

  -- A place that is not that of any note has none.
  pub named_nowhere : (xs : List X) (p : Place) → ((x : X) → (change x).place ≢ p) → named (map change xs) p ≡ None
  named_nowhere xs p h = named_unseen xs p (λ k x e. h x)

  map-push : (xs : List X) (x : X) → map change (xs ++ x ∷ []) ≡ map change xs ++ change x ∷ []
  map-push [] x = refl
  map-push (y ∷ ys) x = ap (λ zs. change y ∷ zs) (map-push ys x)

some_none : (n : Option (Option Value)) → n ≡ None → is_some n ≡ true → ⊥
some_none None e f = cc
some_none (Some x) e f = cc

-- A second note of a place changes nothing.
pub noted_again : (cs : List Change) (p : Place) (x : Option Value) → is_some (named cs p) ≡ true → Noted cs cs p x
noted_again cs p x h q = by (named cs q) refl
  where
    at : (b : Bool) → same_place p q ≡ b → named cs q ≡ None → None ≡ cond b (Some x) None
    at true e n = absurd (some_none (named cs q) n (ap (λ r. is_some (named cs r)) (sym (same_place_is p q e)) ∙ h))
    at false e n = refl

    by : (n : Option (Option Value)) → named cs q ≡ n → n ≡ first_note n (cond (same_place p q) (Some x) None)
    by None e = at (same_place p q) refl e
    by (Some y) e = refl

module _ {X : Type 0} (slot : X → ℕ) (change : X → Change) (one : (x y : X) → slot x ≡ slot y → (change x).place ≡ (change y).place) (apart : (x y : X) → (change x).place ≡ (change y).place → slot x ≡ slot y) where
  -- If the slot has a note, its place has one already.
  pub marked_noted : (xs : List X) (ms : List ℕ) (x : X) → IsMarked slot xs ms (slot x) → Noted (map change xs) (map change xs) (change x).place (change x).old
  marked_noted xs ms x k = noted_again _ _ _ (subst (λ p. is_some (named (map change xs) p) ≡ true) (one k.note x k.its) (named_there change xs k.at k.note k.there))

  -- If the slot has no note, its place has none.
  unmarked_unnamed : (xs : List X) (ms : List ℕ) (x : X) → Marked slot xs ms → ¬ (IsMarked slot xs ms (slot x)) → named (map change xs) (change x).place ≡ None
  unmarked_unnamed xs ms x m free = named_unseen change xs _ (λ k y g i. free (record { at = k; note = y; mark = ap (slice_get ms) (sym (apart y x i)) ∙ m k y g; there = g; its = apart y x i }))

  pub noted_more : (xs : List X) (x : X) → Noted (map change xs) (map change (xs ++ x ∷ [])) (change x).place (change x).old
  noted_more xs x = subst (λ cs. Noted (map change xs) cs (change x).place (change x).old) (sym (map-push change xs x)) (noted_at_end (map change xs) (change x).place (change x).old)

  pub slots_reached : (xs : List X) (ms ns : List ℕ) → SlotsOnce slot change xs ms → ((i : ℕ) → i < length ms → slice_get ns i ≡ slice_get ms i) → SlotsOnce slot change xs ns
  slots_reached xs ms ns o h = record { marked = marked_reached slot xs ms ns o.marked h; once = o.once }

  -- Appending a note and setting its mark maintains the invariant.
  pub slots_once : (xs : List X) (ms ns : List ℕ) (x : X) → SlotsOnce slot change xs ms → ((i : ℕ) → i < length ms → slice_get ns i ≡ slice_get ms i) → slot x < length ns → ¬ (IsMarked slot xs ms (slot x)) → SlotsOnce slot change (xs ++ x ∷ []) (slice_set ns (slot x) (length xs))
  slots_once xs ms ns x o h l free = record {
    marked = marked_more slot xs ns x (marked_reached slot xs ms ns o.marked h) l (unmarked_reached slot xs ms ns (slot x) o.marked h free);
    once = subst NamesOnce (sym (map-push change xs x)) (once_more _ _ o.once (unmarked_unnamed xs ms x o.marked free));
  }
