-- Notes of several kinds, joined into one list.
use Rattle.std.proofs.Common.{◌≡◌, ◌≢◌, ℕ, Bool, true, false, cond, refl, sym, ◌∙◌, ap, List, ◌++◌}
use Rattle.std.specs.Prelude.{Option, Some, None, is_some, ◌==◌}
use Rattle.std.proofs.lemmas.Bool.{eqb-true, eq-eqb}
use Rattle.places.specs.declared.place.Place.{Place}
use Rattle.places.specs.declared.value.Value.{Value}
use Rattle.places.specs.declared.value.Change.{Change}
use Rattle.places.specs.declared.notes.runs.Region.{Region}
use Rattle.places.specs.Places.{same_place}
use Rattle.places.specs.View.{named, Noted, first_note}
use Rattle.places.specs.Runs.{byte_in, NotedBytes}
use Rattle.places.proofs.SamePlace.{same_place_is}
use Rattle.places.proofs.Naming.{named-append}

some_or : (n : Option (Option Value)) → n ≡ first_note n None
some_or None = refl
some_or (Some y) = refl

-- A note added in front of other notes that have none of its place.
pub noted_before_others : (cs ds es : List Change) (p : Place) (x : Option Value) → Noted cs ds p x → named es p ≡ None → Noted (cs ++ es) (ds ++ es) p x
noted_before_others cs ds es p x h none q =
    named-append ds es q ∙ ap (λ n. first_note n (named es q)) (h q) ∙ by (named cs q) ∙ ap (λ n. first_note n (cond (same_place p q) (Some x) None)) (sym (named-append cs es q))
  where
    at : (b : Bool) → same_place p q ≡ b → first_note (cond b (Some x) None) (named es q) ≡ first_note (named es q) (cond b (Some x) None)
    at true e = let i : named es q ≡ None = ap (named es) (sym (same_place_is p q e)) ∙ none in rw (i) refl
    at false e = some_or (named es q)

    by : (n : Option (Option Value)) → first_note (first_note n (cond (same_place p q) (Some x) None)) (named es q) ≡ first_note (first_note n (named es q)) (cond (same_place p q) (Some x) None)
    by None = at (same_place p q) refl
    by (Some y) = refl

-- A note added after other notes.
pub noted_after_others : (cs ds es : List Change) (p : Place) (x : Option Value) → Noted ds es p x → Noted (cs ++ ds) (cs ++ es) p x
noted_after_others cs ds es p x h q =
    named-append cs es q ∙ ap (first_note (named cs q)) (h q) ∙ by (named cs q) ∙ ap (λ n. first_note n (cond (same_place p q) (Some x) None)) (sym (named-append cs ds q))
  where
    by : (n : Option (Option Value)) → first_note n (first_note (named ds q) (cond (same_place p q) (Some x) None)) ≡ first_note (first_note n (named ds q)) (cond (same_place p q) (Some x) None)
    by None = refl
    by (Some y) = refl

-- Notes of bytes added after other notes.
pub bytes_after : (cs ds es : List Change) (g : Region) (s : ℕ) (bs : List ℕ) → NotedBytes ds es g s bs → NotedBytes (cs ++ ds) (cs ++ es) g s bs
bytes_after cs ds es g s bs h q =
    named-append cs es q ∙ ap (first_note (named cs q)) (h q) ∙ by (named cs q) ∙ ap (λ n. first_note n (byte_in g s bs q)) (sym (named-append cs ds q))
  where
    by : (n : Option (Option Value)) → first_note n (first_note (named ds q) (byte_in g s bs q)) ≡ first_note (first_note n (named ds q)) (byte_in g s bs q)
    by None = refl
    by (Some y) = refl

-- Notes of bytes added in front of other notes that have none of their places.
pub bytes_before : (cs ds es : List Change) (g : Region) (s : ℕ) (bs : List ℕ) → NotedBytes cs ds g s bs → ((q : Place) → is_some (byte_in g s bs q) ≡ true → named es q ≡ None) → NotedBytes (cs ++ es) (ds ++ es) g s bs
bytes_before cs ds es g s bs h none q =
    named-append ds es q ∙ ap (λ n. first_note n (named es q)) (h q) ∙ by (named cs q) ∙ ap (λ n. first_note n (byte_in g s bs q)) (sym (named-append cs es q))
  where
    at : (b : Option (Option Value)) → byte_in g s bs q ≡ b → first_note b (named es q) ≡ first_note (named es q) b
    at (Some y) e = let i : named es q ≡ None = none q (ap is_some e) in rw (i) refl
    at None e = some_or (named es q)

    by : (n : Option (Option Value)) → first_note (first_note n (byte_in g s bs q)) (named es q) ≡ first_note (first_note n (named es q)) (byte_in g s bs q)
    by None = at (byte_in g s bs q) refl
    by (Some y) = refl

none_first : (m n : Option (Option Value)) → first_note m n ≡ None → (m ≡ None) × (n ≡ None)
none_first None n e = (refl, e)
none_first (Some x) n e = cc

-- A place without a note in a joined list has none in either part.
pub none_parts : (cs ds : List Change) (p : Place) → named (cs ++ ds) p ≡ None → (named cs p ≡ None) × (named ds p ≡ None)
none_parts cs ds p e = none_first (named cs p) (named ds p) (sym (named-append cs ds p) ∙ e)

pub none_append : (cs ds : List Change) (p : Place) → named cs p ≡ None → named ds p ≡ None → named (cs ++ ds) p ≡ None
none_append cs ds p h k = named-append cs ds p ∙ rw (h) k

pub none_some : (n : Option (Option Value)) → n ≡ None → is_some n ≡ true → ⊥
none_some None e f = cc
none_some (Some x) e f = cc

pub not_some : (n : Option (Option Value)) → is_some n ≡ false → n ≡ None
not_some None e = refl
not_some (Some x) e = cc

-- Two lists that share no place still share none after a note of a new
-- place was added to the first.
pub apart_noted : (os cs ds : List Change) (p : Place) (x : Option Value) → ((q : Place) → is_some (named os q) ≡ true → named cs q ≡ None) → Noted cs ds p x → named os p ≡ None → (q : Place) → is_some (named os q) ≡ true → named ds q ≡ None
apart_noted os cs ds p x h n none q s = n q ∙ rw (h q s) (by (same_place p q) refl)
  where
    by : (b : Bool) → same_place p q ≡ b → cond b (Some x) None ≡ None
    by true e = absurd (none_some (named os q) (ap (named os) (sym (same_place_is p q e)) ∙ none) s)
    by false e = refl

pub apart_bytes : (os cs ds : List Change) (g : Region) (s : ℕ) (bs : List ℕ) → ((q : Place) → is_some (named os q) ≡ true → named cs q ≡ None) → NotedBytes cs ds g s bs → ((q : Place) → is_some (byte_in g s bs q) ≡ true → named os q ≡ None) → (q : Place) → is_some (named os q) ≡ true → named ds q ≡ None
apart_bytes os cs ds g s bs h n none q t = n q ∙ rw (h q t) (by (byte_in g s bs q) refl)
  where
    by : (b : Option (Option Value)) → byte_in g s bs q ≡ b → b ≡ None
    by None e = refl
    by (Some y) e = absurd (none_some (named os q) (none q (ap is_some e)) t)

-- The same after a note of a new place was added to the second.
pub apart_more : (os qs cs : List Change) (p : Place) (x : Option Value) → ((q : Place) → is_some (named os q) ≡ true → named cs q ≡ None) → Noted os qs p x → named cs p ≡ None → (q : Place) → is_some (named qs q) ≡ true → named cs q ≡ None
apart_more os qs cs p x h n none q s = by (named os q) refl
  where
    at : (b : Bool) → same_place p q ≡ b → is_some (cond b (Some x) None) ≡ true → named cs q ≡ None
    at true e t = ap (named cs) (sym (same_place_is p q e)) ∙ none
    at false e t = cc

    by : (m : Option (Option Value)) → named os q ≡ m → named cs q ≡ None
    by (Some y) e = h q (ap is_some e)
    by None e = at (same_place p q) refl (sym (ap is_some (n q ∙ rw (e) refl)) ∙ s)

-- Lists of notes of different sorts share no place.
pub sorts_apart : (sort : Place → ℕ) (s : ℕ) (cs ds : List Change) → ((p : Place) → sort p ≢ s → named cs p ≡ None) → ((p : Place) → sort p ≡ s → named ds p ≡ None) → (p : Place) → is_some (named ds p) ≡ true → named cs p ≡ None
sorts_apart sort s cs ds h k p t = by (sort p == s) refl
  where
    by : (b : Bool) → (sort p == s) ≡ b → named cs p ≡ None
    by true e = absurd (none_some (named ds p) (k p (eqb-true (sort p) s e)) t)
    by false e = h p (λ i. absurd (let f : true ≡ false = sym (eq-eqb (sort p) s i) ∙ e in cc))
