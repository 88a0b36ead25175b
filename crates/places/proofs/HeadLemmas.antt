-- Lemmas about packed changes of which only the heads are read.
use Rattle.std.proofs.Common.{◌≡◌, ℕ, ◌+◌, ◌<◌, ◌≤◌, ◌/◌, ◌%◌, Bool, true, false, not, cond, refl, sym, ◌∙◌, ap, List, arith}
use Rattle.std.proofs.lemmas.Bool.{eqb-true}
use Rattle.std.specs.Prelude.{◌==◌, Option, Some, None, is_some}
use Rattle.places.specs.declared.listed.Listed.{Listed}
use Rattle.places.specs.declared.packing.changes.Head.{Head}
use Rattle.places.specs.declared.place.Place.{Place}
use Rattle.places.specs.declared.value.Value.{Value}
use Rattle.places.specs.declared.value.Change.{Change}
use Rattle.places.specs.Places.{kind_of, same_place}
use Rattle.places.specs.PlaceNumbers.{place_of}
use Rattle.places.specs.View.{named}
use Rattle.places.specs.Notes.{left, after_change}
use Rattle.compact_size.specs.CompactSizes.{number_of, after, after_many, word_of}
use Rattle.places.specs.Packed.{value_of_shape, after_value, change_of, after_change as after_packed}
use Rattle.places.specs.Heads.{IsHead, IsFirst, number_was}
use Rattle.places.proofs.Left.{after_some}

-- ---- Reading a head

either_some : (b : Bool) (x y : Option Value) → is_some x ≡ true → is_some y ≡ true → is_some (cond b x y) ≡ true
either_some true x y e f = e
either_some false x y e f = f

none_or_some : (b : Bool) (y : Option Value) → is_some y ≡ true → is_some (cond b None y) ≡ not b
none_or_some true y f = refl
none_or_some false y f = f

-- A place was absent exactly if the shape is 0.
some_by_shape : (s : ℕ) (bytes : List ℕ) → is_some (value_of_shape s bytes) ≡ not (s == 0)
unfolding value_of_shape
some_by_shape s bytes =
    none_or_some (s == 0) _ (either_some (s == 1) _ _ refl refl)

pub head_read : (bytes : List ℕ) (n i : ℕ) → n ≡ number_of bytes → i ≡ word_of (after_many 1 bytes) → IsHead (record { kind = n % 30; index = i; was_there = not (n / 30 == 0) }) (change_of bytes)
unfolding change_of
head_read bytes n i e f = record {
  kind = omega arith;
  place = rw (e, f) refl;
  was_there = rw e (some_by_shape (number_of bytes / 30) (after_many 2 bytes));
}

-- The change whose shape is 1: its old value is a number.
number_first : (bytes : List ℕ) → number_of bytes / 30 ≡ 1 → (change_of bytes ≡ number_was (place_of (number_of bytes % 30) (word_of (after_many 1 bytes)) 0) (number_of (after_many 2 bytes))) × (after_packed bytes ≡ after_many 3 bytes)
unfolding change_of after_packed value_of_shape after_value
number_first bytes e = (rw e refl, rw e refl)

-- The same, by the head, index and number as they are read one after the other.
pub number_read : (bytes a b c : List ℕ) (h i n : ℕ) (p : Place) → h ≡ number_of bytes → h / 30 ≡ 1 → a ≡ after bytes → i ≡ word_of a → b ≡ after a → n ≡ number_of b → c ≡ after b → p ≡ place_of (h % 30) i 0 → (change_of bytes ≡ number_was p n) × (after_packed bytes ≡ c)
number_read bytes a b c h i n p eh one ea ei eb en ec ep = rw (ep, en, ec, ei, eb, ea, eh) (number_first bytes (ap (λ k. k / 30) (sym eh) ∙ one))

-- ---- Places of different kinds differ

-- One case of the next lemma.
step : (k n : ℕ) (p q : Place) → kind_of p ≡ n → n ≤ k → (n + 1 ≤ k → kind_of q ≡ k) → kind_of (cond (k == n) p q) ≡ k
step k n p q e h f = by (k == n) refl
  where
    by : (b : Bool) → (k == n) ≡ b → kind_of (cond b p q) ≡ k
    by true t = e ∙ sym (eqb-true k n t)
    by false t = f (grind arith)

-- The place with kind k has kind k.
kind_placed : (k i : ℕ) → k < 30 → kind_of (place_of k i 0) ≡ k
unfolding place_of
kind_placed k i h =
    step k 0 _ _ refl (omega arith) (λ a1.
    step k 1 _ _ refl a1 (λ a2.
    step k 2 _ _ refl a2 (λ a3.
    step k 3 _ _ refl a3 (λ a4.
    step k 4 _ _ refl a4 (λ a5.
    step k 5 _ _ refl a5 (λ a6.
    step k 6 _ _ refl a6 (λ a7.
    step k 7 _ _ refl a7 (λ a8.
    step k 8 _ _ refl a8 (λ a9.
    step k 9 _ _ refl a9 (λ a10.
    step k 10 _ _ refl a10 (λ a11.
    step k 11 _ _ refl a11 (λ a12.
    step k 12 _ _ refl a12 (λ a13.
    step k 13 _ _ refl a13 (λ a14.
    step k 14 _ _ refl a14 (λ a15.
    step k 15 _ _ refl a15 (λ a16.
    step k 16 _ _ refl a16 (λ a17.
    step k 17 _ _ refl a17 (λ a18.
    step k 18 _ _ refl a18 (λ a19.
    step k 19 _ _ refl a19 (λ a20.
    step k 20 _ _ refl a20 (λ a21.
    step k 21 _ _ refl a21 (λ a22.
    step k 22 _ _ refl a22 (λ a23.
    step k 23 _ _ refl a23 (λ a24.
    step k 24 _ _ refl a24 (λ a25.
    step k 25 _ _ refl a25 (λ a26.
    step k 26 _ _ refl a26 (λ a27.
    step k 27 _ _ refl a27 (λ a28.
    step k 28 _ _ refl a28 (λ a29.
    omega arith)))))))))))))))))))))))))))))

pub other_kind : (k i n : ℕ) (p : Place) → k < 30 → n ≡ kind_of p → (k == n) ≡ false → (k == n) ≡ same_place (place_of k i 0) p
unfolding same_place
other_kind k i n p h e t = t ∙ sym (rw (kind_placed k i h, ← e, t) refl)

-- ---- The first of some changes, by its head

module _ (h : Head) (cs ds : List Change) (f : IsFirst h cs ds) where
  pub names_first : (p : Place) → same_place (place_of h.kind h.index 0) p ≡ true → is_some (named cs p) ≡ true
  unfolding named
  names_first p e = rw (f.first, f.head.place, e) refl

  pub names_later : (p : Place) → same_place (place_of h.kind h.index 0) p ≡ false → is_some (named ds p) ≡ is_some (named cs p)
  unfolding named
  names_later p e = rw (f.first, f.head.place, e) refl

  -- If its place was absent, undoing it removes that element and all after it.
  pub left_absent : (l : Listed) (m n : ℕ) → not h.was_there ≡ true → m ≡ after_change l (place_of h.kind h.index 0) None n → left l ds m ≡ left l cs n
  left_absent l m n s e = rw f.first (ap (left l ds) (by f.change.old (ap not f.head.was_there ∙ s)))
    where
      by : (x : Option Value) → not (is_some x) ≡ true → m ≡ after_change l f.change.place x n
      by None k = e ∙ ap (λ p. after_change l p None n) (sym f.head.place)
      by (Some v) k = absurd cc

  -- If its place was present, undoing it removes no element.
  pub left_was_there : (l : Listed) (n : ℕ) → not h.was_there ≡ false → left l ds n ≡ left l cs n
  left_was_there l n s = rw f.first (ap (left l ds) (by f.change.old (ap not f.head.was_there ∙ s)))
    where
      by : (x : Option Value) → not (is_some x) ≡ false → n ≡ after_change l f.change.place x n
      by None k = absurd cc
      by (Some v) k = sym (after_some l f.change.place v n)
