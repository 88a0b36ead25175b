-- The moments before an item of a script, from the end of a run down.
use Rattle.std.proofs.Common.{◌≡◌, ℕ, zero, suc, ◌+◌, ◌-◌, ◌<◌, ◌≤◌, inl, inr, List, [], ◌∷◌, ◌++◌, Bool, true, false, refl, sym, ap, ◌∙◌, arith}
use Rattle.std.specs.Prelude.{Option, Some, None, filter, reverse, unwrap_or, is_some, ◌==◌}
use Rattle.std.specs.List.{range_with_len}
use Rattle.std.proofs.lemmas.Bool.{cases_lt}
use Rattle.std.proofs.lemmas.Bool.Decides.{nat_tests}
use Rattle.std.proofs.lemmas.List.{reverse-append}
use Rattle.places.specs.declared.place.Place.{Place}
use Rattle.places.specs.declared.value.Value.{Value}
use Rattle.places.specs.declared.value.Change.{Change}
use Rattle.places.specs.Places.{same_place}
use Rattle.places.specs.View.{View, Exact, named}

-- A value before the event of an exact record.
pub value_before : (old new : View) (r : List Change) (p : Place) (x : Option Value) → Exact old new r → x ≡ new p → unwrap_or (named r p) x ≡ old p
value_before old new r p x h e = by (named r p) refl
  where
    by : (o : Option (Option Value)) → named r p ≡ o → unwrap_or o x ≡ old p
    by None f = e ∙ sym (h.same p f)
    by (Some y) f = (h.differs p y f).0

-- One more moment below those from m on.
range_down : (m n : ℕ) → 0 < m → m ≤ n → range_with_len (m - 1) (n - (m - 1)) ≡ (m - 1) ∷ range_with_len m (n - m)
range_down m n a b =
    let e : n - (m - 1) ≡ suc (n - m) = omega arith in
    let f : m - 1 + 1 ≡ m = omega arith in
    ap (range_with_len (m - 1)) e ∙ ap (λ k. (m - 1) ∷ range_with_len k (n - m)) f

pub found_more : (q : ℕ → Bool) (ms : List ℕ) (m n : ℕ) → 0 < m → m ≤ n → reverse ms ≡ filter q (range_with_len m (n - m)) → q (m - 1) ≡ true → reverse (ms ++ (m - 1) ∷ []) ≡ filter q (range_with_len (m - 1) (n - (m - 1)))
found_more q ms m n a b h t =
    reverse-append ms ((m - 1) ∷ []) ∙ ap (λ l. (m - 1) ∷ l) h
    ∙ sym (ap (filter q) (range_down m n a b) ∙ rw t refl)

pub found_no_more : (q : ℕ → Bool) (ms : List ℕ) (m n : ℕ) → 0 < m → m ≤ n → reverse ms ≡ filter q (range_with_len m (n - m)) → q (m - 1) ≡ false → reverse ms ≡ filter q (range_with_len (m - 1) (n - (m - 1)))
found_no_more q ms m n a b h t =
    h ∙ sym (ap (filter q) (range_down m n a b) ∙ rw t refl)

pub none_from : (q : ℕ → Bool) (n : ℕ) → [] ≡ filter q (range_with_len n (n - n))
none_from q n = let e : n - n ≡ 0 = omega arith in rw e refl

-- ---- A single moment

none_equal : (i a n : ℕ) → i < a → filter (λ m. m == i) (range_with_len a n) ≡ []
none_equal i a zero h = refl
none_equal i a (suc n) h = let e : (a == i) ≡ false = grind (arith, nat_tests) in rw e (none_equal i (a + 1) n (omega arith))

pub lone : (i a n : ℕ) → a ≤ i → i < a + n → i ∷ [] ≡ filter (λ m. m == i) (range_with_len a n)
lone i a zero h g = absurd (omega arith)
lone i a (suc n) h g = elim (cases_lt a i) as (λ _. i ∷ [] ≡ filter (λ m. m == i) (range_with_len a (suc n))) [
  | inl c ↦ let e : (a == i) ≡ false = grind (arith, nat_tests) in rw e (lone i (a + 1) n (omega arith) (omega arith))
  | inr c ↦
      let e : (a == i) ≡ true = grind (arith, nat_tests) in
      let f : i ≡ a = omega arith in
      rw (e, none_equal i (a + 1) n (omega arith)) (ap (λ k. k ∷ []) f)
]

pub none_past : (i a n : ℕ) → a + n ≤ i → [] ≡ filter (λ m. m == i) (range_with_len a n)
none_past i a zero h = refl
none_past i a (suc n) h = let e : (a == i) ≡ false = grind (arith, nat_tests) in rw e (none_past i (a + 1) n (omega arith))

-- ---- The changes of a record

pub named_first : (c : Change) (cs : List Change) (p : Place) → same_place c.place p ≡ true → named (c ∷ cs) p ≡ Some c.old
unfolding named
named_first c cs p h = rw h refl

pub named_next : (c : Change) (cs : List Change) (p : Place) → same_place c.place p ≡ false → named (c ∷ cs) p ≡ named cs p
unfolding named
named_next c cs p h = rw h refl

pub named_none : (p : Place) → named [] p ≡ None
unfolding named
named_none p = refl

pub unnamed : (o : Option (Option Value)) → is_some o ≡ false → o ≡ None
unnamed None h = refl
unnamed (Some x) h = cc
